-- The exchanges hold of the calls: by demand 3, as they hold of the readings; and the short ones by computing each.
use mathlib.Core.Path.{◌≡◌, refl, sym, ap, ◌∙◌}
use mathlib.Core.List.{List, [], ◌∷◌, map}
use lib.ListN.{get_or, drop}
use Rattle.rules.specs.Octets.{octets-opened}
use Rattle.rules.specs.Setup.{setup-opened}
use Rattle.rules.specs.Answers.{answers-opened}
use Rattle.rules.specs.Lines.{lines-opened}
use Rattle.rules.specs.Address.{address-opened}
use Rattle.rules.specs.Commands.{commands-opened}
use Rattle.rules.specs.Replies.{replies-opened}
use Rattle.rules.specs.Edition.{edition-opened}
use Rattle.rules.specs.Telnet.{telnet-opened}
use Rattle.rules.specs.Answers.{client, server}
use Rattle.rules.specs.History.{Item, text_of, has_ended, history-opened}
use Rattle.rules.specs.ToServer.{to_server as read_server, to-server-opened}
use Rattle.rules.specs.Items.{all_to_server, each_item, to_client as read_client, removed_from}
use Rattle.rules.specs.Pieces.{pieces-opened}
use Rattle.rules.specs.Exchanges.{
  Exchange,
  exchanges,
  multi_line_exchanges,
  telnet_exchanges,
  long_telnet_exchanges,
  strict_exchanges,
  Removal,
  removals,
  all_on,
  read_as,
  printed,
  removal_read,
  exchanges-opened,
}
use Rattle.rules.proofs.Exchanges.{twelve-exchanges, multi-line-exchanges, telnet-exchanges, strict-exchanges, telnet-removals}
use Rattle.readings.proofs.Exchanges.{long-telnet-exchanges}
use Rattle.queue.specs.Kinds.{kinds-opened}
use Rattle.gives.specs.Text.{gives-opened}
use Rattle.places.specs.Places.{places-opened}
use Rattle.records.specs.Sound.{sound-opened}
use Rattle.upstream.specs.Upstream.{upstream-opened}
use Rattle.downstream.specs.Downstream.{downstream-opened}
use Rattle.steps.specs.Steps.{steps-opened}
use Rattle.session.specs.Calls.{calls-opened}
use Rattle.history.specs.Exchanges.{
  HoldsOf,
  EachHolds,
  CountsOf,
  EachCounts,
  short_ones,
  called_both,
  printed_both,
  counted_both,
  removed_both,
  calls-exchanges-opened,
}
use Rattle.history.proofs.Demand3.{demand3}

-- what holds of the readings holds of the calls
holds_of : (e : Exchange) → read_as e ≡ printed e → HoldsOf e
unfolding read_as
holds_of e p l f h =
    let k = demand3 e.setup f.first f.last l f.fresh f.calls in (
      sym k.joined_to_server ∙ ap all_to_server k.pieces ∙ ap (λ (is : List Item). all_to_server (each_item e.setup is)) h
          ∙ ap (λ (x : Exchange). x.to_server) p,
      k.to_server ∙ ap (λ (is : List Item). read_server e.setup (text_of client is) (has_ended client is)) h ∙ ap (λ (x : Exchange). x.spoken) p,
      k.to_client ∙ ap (read_client e.setup) h ∙ ap (λ (x : Exchange). x.to_client) p,
    )

each_holds : (es : List Exchange) → map read_as es ≡ map printed es → EachHolds es
each_holds [] p = tt
each_holds (e ∷ es) p = (holds_of e (ap (λ (l : List Exchange). get_or l 0 e) p), each_holds es (ap (drop 1) p))

pub twelve-exchanges-through-calls : EachHolds exchanges
twelve-exchanges-through-calls = each_holds exchanges twelve-exchanges

pub multi-line-exchanges-through-calls : EachHolds multi_line_exchanges
multi-line-exchanges-through-calls = each_holds multi_line_exchanges multi-line-exchanges

pub telnet-exchanges-through-calls : EachHolds telnet_exchanges
telnet-exchanges-through-calls = each_holds telnet_exchanges telnet-exchanges

pub long-telnet-exchanges-through-calls : EachHolds long_telnet_exchanges
long-telnet-exchanges-through-calls = each_holds long_telnet_exchanges long-telnet-exchanges

pub strict-exchanges-through-calls : EachHolds strict_exchanges
strict-exchanges-through-calls = each_holds strict_exchanges strict-exchanges

-- the same of what was removed
counts_of : (e : Removal) → removal_read e ≡ e → CountsOf e
unfolding removal_read
counts_of e p l f h =
    let k = demand3 all_on f.first f.last l f.fresh f.calls in (
      k.client_removed ∙ ap (removed_from all_on client) h ∙ ap (λ (x : Removal). x.from_client) p,
      k.server_removed ∙ ap (removed_from all_on server) h ∙ ap (λ (x : Removal). x.from_server) p,
    )

each_counts : (es : List Removal) → map removal_read es ≡ es → EachCounts es
each_counts [] p = tt
each_counts (e ∷ es) p = (counts_of e (ap (λ (l : List Removal). get_or l 0 e) p), each_counts es (ap (drop 1) p))

pub removals-through-calls : EachCounts removals
removals-through-calls = each_counts removals telnet-removals

-- ---- computed

-- all that calls, roles and the tables are defined by
unfoldable all-opened : Unit {0}
unfolding octets-opened setup-opened answers-opened lines-opened address-opened commands-opened replies-opened edition-opened history-opened to-server-opened telnet-opened pieces-opened exchanges-opened kinds-opened gives-opened places-opened sound-opened upstream-opened downstream-opened steps-opened calls-opened calls-exchanges-opened
all-opened = tt

pub short-exchanges-computed : map called_both (short_ones exchanges) ≡ map printed_both (short_ones exchanges)
unfolding all-opened
short-exchanges-computed = refl

pub telnet-exchanges-computed : map called_both (short_ones telnet_exchanges) ≡ map printed_both (short_ones telnet_exchanges)
unfolding all-opened
telnet-exchanges-computed = refl

pub strict-exchanges-computed : map called_both (short_ones strict_exchanges) ≡ map printed_both (short_ones strict_exchanges)
unfolding all-opened
strict-exchanges-computed = refl

pub removals-computed : map counted_both removals ≡ map removed_both removals
unfolding all-opened
removals-computed = refl
