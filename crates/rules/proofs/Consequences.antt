-- What follows from demand 3 for any gateway that keeps it, and which flags a setup may have.
use mathlib.Core.Path.{◌≡◌, refl, sym, ap, ◌∙◌}
use Rattle.rules.specs.Octets.{octets-opened}
use Rattle.rules.specs.Setup.{good_flags, good_from, setup-opened}
use Rattle.rules.specs.Items.{all_to_server}
use Rattle.rules.specs.Demand3.{Gateway, Demand3, pieces_of, SameHistory, SameClient}

pub any-same-client : (g : Gateway) → Demand3 g → SameClient g
any-same-client g demand su l m a b text ended =
    (demand su a.first a.last l a.fresh a.calls).to_server
    ∙ rw (text, ended) (sym (demand su b.first b.last m b.fresh b.calls).to_server)

pub any-same-history : (g : Gateway) → Demand3 g → SameHistory g
any-same-history g demand su l m a b same =
    let p = demand su a.first a.last l a.fresh a.calls in
    let q = demand su b.first b.last m b.fresh b.calls in
    let pieces : pieces_of g l ≡ pieces_of g m = p.pieces ∙ rw same (sym q.pieces) in
    (sym p.joined_to_server ∙ ap all_to_server pieces ∙ q.joined_to_server, p.to_client ∙ rw same (sym q.to_client))

-- of all 256 octets, `bad_flags` is true of those that are not in the table, and of no other
pub good-flags : good_from 256 0 ≡ good_flags
unfolding octets-opened setup-opened
good-flags = refl
