-- Document 01's rules are those that the session follows, and a fresh session stands where the readings begin.
use Rattle.std.specs.Prelude.{Option, None, Some}
use mathlib.Core.Path.{◌≡◌, refl, ap, ◌∙◌}
use mathlib.Core.Bool.{Bool, true, false}
use mathlib.Core.List.{List, [], ◌∷◌, ◌++◌}
use Prim.Native.Nat.{ℕ}
use native.Mathlib.Omega.{arith}
use lib.ListN.{drop, length-replicate}
use Rattle.rules.specs.Octets.{lf, choose}
use Rattle.rules.specs.Lines.{judged, most_held, passed, unchanged, content}
use Rattle.rules.specs.Setup.{setup_switches, bad_flags, setup_answer, fixed_by}
use Rattle.rules.specs.declared.Setup.{Setup}
use Rattle.rules.specs.Answers.{answer_number}
use Rattle.rules.specs.Commands.{command, command_gives}
use Rattle.rules.specs.Replies.{passive_reply, extended_passive_line, cannot_open_line, foreign, passive_gives, final_gives}
use Rattle.rules.specs.Edition.{client_line_of, document01}
use Rattle.rules.specs.Items.{fresh_moment}
use Rattle.rules.specs.Demand3.{Call, Return, lent_server, lent_client}
use Rattle.rules.specs.declared.Answer.{Answer}
use Rattle.rules.specs.declared.Command.{Command}
use Rattle.rules.specs.declared.Kind.{Kind}
use Rattle.rules.specs.declared.PassiveReply.{PassiveReply}
use Rattle.records.specs.declared.Session.{Session}
use Rattle.gives.specs.declared.Gives.{Gives}
use Rattle.gives.specs.Text.{gives_text}
use Rattle.upstream.specs.Upstream.{command_effect}
use Rattle.downstream.specs.Downstream.{kind_effect, passive_effect}
use Rattle.rules.specs.declared.Fixed.{Fixed}
use Rattle.session.specs.declared.Called.{Called}
use Rattle.setups.specs.Setups.{prepared, fresh_session}
use Rattle.session.specs.Calls.{Outcome}
use Rattle.history.specs.Gateway.{Fresh, returned, Promise, outcome_of}
use Rattle.history.proofs.Queue.{queue-fresh}
use Rattle.history.proofs.Places.{Agrees, begins}
use Rattle.history.proofs.Calls.{Stays}

command-gives : (f : Fixed) (l : List ℕ) (k : Command) → gives_text f l lf (command_effect k) ≡ command_gives f l k
unfolding gives_text command_effect command_gives passed choose
command-gives f l Command.Passes = refl
command-gives f l Command.Passive = refl
command-gives f l (Command.Port p) = refl
command-gives f l (Command.Answered a) = refl
command-gives f l Command.Auth = refl

named-gives : (f : Fixed) (l : List ℕ) (p : ℕ) (b : Bool)
    → gives_text f l lf (choose b Gives.CannotOpen (Gives.ExtendedPassive p)) ≡ choose b cannot_open_line (extended_passive_line p)
unfolding gives_text choose
named-gives f l p true = refl
named-gives f l p false = refl

unread : (f : Fixed) (l : List ℕ) → gives_text f l lf Gives.HeldAndOctet ≡ unchanged l
unfolding gives_text passed choose
unread f l = refl

passive-gives : (f : Fixed) (l : List ℕ) (r : Option PassiveReply) → gives_text f l lf (passive_effect f r) ≡ passive_gives f l r
unfolding passive_effect passive_gives
passive-gives f l (Some n) = named-gives f l n.port (foreign f n.address)
passive-gives f l None = unread f l

final-gives : (f : Fixed) (k : Kind) (l : List ℕ) → gives_text f l lf (kind_effect f k (content l)) ≡ final_gives f k l
unfolding gives_text kind_effect final_gives passed choose
final-gives f Kind.Plain l = refl
final-gives f Kind.TranslatedEpsv l = passive-gives f l (passive_reply (content l))
final-gives f (Kind.Own a) l = refl
final-gives f Kind.Auth l = refl

pub agrees : (su : Setup) → Agrees (fixed_by su) (document01 su)
unfolding client_line_of
agrees su =
    record {
      Tied = λ sw st. sw ≡ st;
      gives = λ sw st e l. rw e (command-gives (fixed_by su) l (command (fixed_by su) st l));
      owes = λ sw st e l. rw e;
      after = λ sw st e l. rw e;
      final = λ k l. final-gives (fixed_by su) k l;
    }

-- ---- a fresh session

good-flags : (b : Bool) → choose b Answer.BadSetup Answer.Done ≡ Answer.Done → b ≡ false
unfolding choose
good-flags true e = absurd (omega (arith, ap answer_number e))
good-flags false e = refl

-- a setup that answers 0 has a record, and no other has one
pub fresh-there : (su : Setup) → setup_answer su.flags ≡ Answer.Done → (r : Session) × Fresh su r
unfolding prepared
fresh-there su e = ((prepared su).session, record { answer = e; session = refl })

pub only-fresh : (su : Setup) (r : Session) → Fresh su r → setup_answer su.flags ≡ Answer.Done
unfolding prepared
only-fresh su r h = h.answer

-- every call returns
pub returns : (r : Session) (c : Call) → (t : Return Session) × Promise r c t
returns r c =
    let o : Outcome = outcome_of r c in
    let t : Called = o.called in (
      returned r c t (o.to_server ++ drop t.written.server (lent_server c)) (o.to_client ++ drop t.written.client (lent_client c)),
      record { answer = refl; taken = refl; to_server = refl; to_client = refl; session = refl; server_buffer = refl; client_buffer = refl; pieces = refl },
    )

pub fresh-is : (su : Setup) (r : Session) → Fresh su r → r ≡ fresh_session su
unfolding prepared setup_answer choose
fresh-is su r h = h.session ∙ rw (good-flags (bad_flags su.flags) h.answer)

pub fresh-stays : (su : Setup)
    → Stays (agrees su) (fresh_session su) (fresh_moment (setup_switches su.flags))
unfolding fresh_session agrees judged
fresh-stays su =
    record {
      live = refl;
      fixed = refl;
      alike = record {
        client = record { tied = refl; place = begins _; full = length-replicate {A = ℕ} most_held 0; layer = refl };
        server = record { place = begins _; full = length-replicate {A = ℕ} most_held 0; queue = queue-fresh; opening = refl; layer = refl };
      };
    }
