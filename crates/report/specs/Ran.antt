-- What the code keeps of an entry that it ran.
use Rattle.std.specs.Prelude.{List, ℕ, take}
use Rattle.rules.specs.Answers.{answer_number}
use Rattle.session.specs.declared.Called.{Called}
use Rattle.setups.specs.declared.Prepared.{Prepared}
use Rattle.fields.specs.Report.{Done}
use Rattle.report.specs.declared.EntryRan.{EntryRan}

-- what was written lies in the two buffers
unfoldable pub done_in : EntryRan → List ℕ → List ℕ → Done
done_in r server client =
    record {
      taken = r.taken;
      number = answer_number r.answer;
      to_server = take r.written.server server;
      to_client = take r.written.client client;
      session = r.session;
    }

-- what is kept of what a call returned
abbrev pub ran_of : Called → EntryRan
ran_of c = record { taken = c.taken; answer = c.answer; written = c.written; session = c.session }

-- and of a setup, which takes and writes nothing
abbrev pub setup_kept : Prepared → EntryRan
setup_kept p = record { taken = 0; answer = p.answer; written = record { server = 0; client = 0 }; session = p.session }
