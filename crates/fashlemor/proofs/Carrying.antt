-- The memory of a host in C carries the record from call to call.
use mathlib.Core.Path.{◌≡◌, refl, ap, sym, ◌∙◌}
use mathlib.Core.Bool.{Bool, true, false}
use mathlib.Core.List.{List}
use Rattle.std.specs.Prelude.{Option, None, Some}
use Prim.Native.Nat.{ℕ, ◌+◌, ◌^◌, ◌≤◌, ◌<◌}
use native.Mathlib.Omega.{arith}
use lib.Dec.{leb, eqb}
use lib.ListN.{length, drop, length-drop}
use lib.Seq.{length-take-le, get_or-take, get_or-drop}
use borrow.Author.Tests.{leb-true, leb-false, eqb-true}
use Rattle.rules.specs.Octets.{choose}
use Rattle.rules.specs.Lines.{judged}
use Rattle.rules.specs.Answers.{Side, wrapped, answer_number}
use Rattle.rules.specs.declared.Answer.{Answer}
use Rattle.rules.specs.Setup.{ipv6_width, ipv4_width, setup_size, setup_in}
use Rattle.rules.specs.declared.Setup.{Setup}
use Rattle.rules.specs.declared.Fixed.{Fixed}
use Rattle.setups.proofs.Octets.{of_size}
use Rattle.records.specs.Layout.{image_size}
use Rattle.output.specs.Buffer.{put_at}
use Rattle.output.proofs.Placing.{length-put}
use Rattle.records.specs.declared.Session.{Session}
use Rattle.session.specs.Bounds.{Shaped}
use Rattle.steps.specs.Steps.{Step}
use Rattle.steps.specs.Takes.{Took}
use Rattle.setups.specs.Setups.{prepared, prepared_from, dead_session, fresh_session}
use Rattle.session.specs.Calls.{Outcome, refused, unless_refused, outcome, session_after, arrived, end_outcome, end_called}
use Rattle.output.proofs.Front.{front-put}
use Rattle.answers.specs.Table.{Situation, Result, of_arrival, of_end, Sound, BadFlags}
use Rattle.answers.proofs.Refusals.{sound-words}
use Rattle.answers.proofs.Lengths.{octet-at, octets-all}
use Rattle.answers.proofs.Kept.{calls-keep, fresh_kept}
use Rattle.answers.proofs.Table.{refused-untouched, end-two, end-two-untouched, five, setup-zero}
use Rattle.image.specs.Image.{image_of, fields_in, is_image, session_of, Sized, Numbered, Wrapped}
use Rattle.image.proofs.Writing.{image-length}
use Rattle.image.proofs.Back.{read_back}
use Rattle.image.proofs.Again.{record-lies}
use Rattle.image.specs.Lent.{ended_on, image_after}
use Rattle.fashlemor.specs.Carried.{Holds, Begun, Carried, EndKeeps}
use Rattle.fashlemor.proofs.Calls.{kept, written_back}

sizes : (s : Session) → Shaped s → length s.fixed.client ≡ ipv6_width → length s.fixed.server ≡ ipv4_width → Sized s
unfolding judged
sizes s h e g = record { client = e; mapped = h.mapped; server = g; kinds = h.kinds; command = h.command; reply = h.reply }

numbers : (s : Session) → Shaped s → Numbered s.control
numbers s h = record { opening = h.opening; up = h.removed_up; down = h.removed_down }

-- a record that is put into memory with room for it is held there
put_holds : (image : List ℕ) (s : Session) → image_size ≤ length image → Shaped s → length s.fixed.client ≡ ipv6_width → length s.fixed.server ≡ ipv4_width → Wrapped s.up → Wrapped s.down
    → Sound s → Holds (put_at image 0 (image_of s)) s
put_holds image s room shape e g up down w =
    let size = sizes s shape e g in
    let long = image-length s size in
    let fits : length (image_of s) ≤ length image = omega arith in
    record {
      room = omega (arith, length-put image 0 (image_of s) (omega arith));
      read = rw (front-put image (image_of s) fits) (read_back s (drop (length (image_of s)) image) size (numbers s shape) up down ((sound-words s).1 w));
      shaped = shape;
      client = e;
      server = g;
      up = up;
      down = down;
      sound = w;
    }

-- ---- what a call does not touch, and its counters

record Untouched (s : Session) (o : Outcome) : Type 0 where
  pub fixed : o.called.session.fixed ≡ s.fixed
  pub up : Wrapped o.called.session.up
  pub down : Wrapped o.called.session.down

low : (n : ℕ) → wrapped n < 2 ^ 32
unfolding wrapped
low n = omega arith

outcome-fixed : (s : Session) (d : Side) (t : Took) → Untouched s (outcome s d t)
unfolding outcome session_after
outcome-fixed s d t =
    record { fixed = refl; up = record { taken = low _; written = low _ }; down = record { taken = low _; written = low _ } }

module _ (s : Session) (up : Wrapped s.up) (down : Wrapped s.down) where
  same-fixed : (a : Answer) → Untouched s (refused a s)
  unfolding refused
  same-fixed a = record { fixed = refl; up = up; down = down }

  unless-fixed : (r : Option Answer) (o : Outcome) → Untouched s o → Untouched s (unless_refused r s o)
  unfolding unless_refused
  unless-fixed None o f = f
  unless-fixed (Some a) o f = same-fixed a

  end-fixed : (d : Side) (t : Step) (b : Bool) → Untouched s (end_outcome s d t b)
  unfolding end_outcome
  end-fixed d t true = outcome-fixed s d _
  end-fixed d t false = same-fixed Answer.NoRoom

call-fixed : (c : Situation) (o : Outcome) → Wrapped c.session.up → Wrapped c.session.down → Result c o → Untouched c.session o
unfolding arrived end_called
call-fixed c o up down (of_arrival octets) = unless-fixed c.session up down _ _ (outcome-fixed c.session _ _)
call-fixed c o up down of_end = unless-fixed c.session up down _ _ (end-fixed c.session up down _ _ _)

-- ---- setup

fresh-counts : (su : Setup) → Wrapped (fresh_session su).up × Wrapped (fresh_session su).down
unfolding fresh_session
fresh-counts su = (record { taken = omega arith; written = omega arith }, record { taken = omega arith; written = omega arith })

fresh-client : (su : Setup) → (fresh_session su).fixed.client ≡ su.client
unfolding fresh_session
fresh-client su = refl

fresh-server : (su : Setup) → (fresh_session su).fixed.server ≡ su.server
unfolding fresh_session
fresh-server su = refl

pub good-flags : (su : Setup) → (prepared su).answer ≡ Answer.Done → BadFlags su.flags → ⊥
good-flags su e b = omega (arith, (five su).1 b, ap answer_number e)

-- what is told of a setup that answered 0
had-size : (octets : List ℕ) → (prepared_from octets).answer ≡ Answer.Done → (b : Bool) → eqb (length octets) setup_size ≡ b → length octets ≡ setup_size
unfolding prepared_from choose
had-size octets done true e = eqb-true (length octets) setup_size e
had-size octets done false e = absurd (omega (arith, ap answer_number (rw e at done)))

pub done-size : (octets : List ℕ) → (prepared_from octets).answer ≡ Answer.Done → length octets ≡ setup_size
done-size octets done = had-size octets done (eqb (length octets) setup_size) refl

pub begun : Begun
unfolding setup_in
begun image octets room each done =
    let size = done-size octets done in
    let su = setup_in octets in
    let p = of_size octets size in
    let z = setup-zero su (good-flags su (rw p at done)) in
    let client : length su.client ≡ ipv6_width = length-take-le ipv6_width octets (omega arith) in
    let mapped : length su.mapped ≡ ipv4_width = length-take-le ipv4_width (drop ipv6_width octets) (omega (arith, length-drop ipv6_width octets)) in
    let server : length su.server ≡ ipv4_width = length-take-le ipv4_width (drop (ipv6_width + ipv4_width + 1) octets) (omega (arith, length-drop (ipv6_width + ipv4_width + 1) octets)) in
    let k = fresh_kept su mapped
    (octets-all su.mapped
    (λ j less. rw (get_or-take ipv4_width (drop ipv6_width octets) j 0 (omega (arith, mapped)), get_or-drop ipv6_width octets j 0) (octet-at octets (ipv6_width + j) each))) in
    let n = fresh-counts su in
    let held = put_holds image (fresh_session su) room k.0 (ap length (fresh-client su) ∙ client) (ap length (fresh-server su) ∙ server) n.0 n.1 k.1 in
    rw (p ∙ z) held

-- ---- the calls

pub carried : Carried
carried image c o h r = by_number (leb 3 (answer_number o.called.answer)) refl
  where
    by_number : (b : Bool) → leb 3 (answer_number o.called.answer) ≡ b → Holds (image_after image o.called) o.called.session
    by_number true e =
        let high = leb-true 3 (answer_number o.called.answer) e in
        rw (sym (kept image o.called refl high), (refused-untouched c o r high).session) h
    by_number false e =
        let low' = leb-false 3 (answer_number o.called.answer) e in
        let k = calls-keep c h.shaped h.sound o r in
        let f = call-fixed c o h.up h.down r in
        rw (sym (written_back image o.called refl low')) (put_holds image o.called.session h.room k.0 (ap (λ (x : Fixed). length x.client) f.fixed ∙ h.client) (ap (λ (x : Fixed). length x.server) f.fixed ∙ h.server) f.up f.down k.1)

-- ---- an end whose octets do not fit

not_dead : (image : List ℕ) (b : Bool) → (choose b (fields_in image) dead_session).live ≡ true → b ≡ true
unfolding choose dead_session
not_dead image true e = refl
not_dead image false e = e

pub end-keeps : EndKeeps
unfolding ended_on session_of
end-keeps image direction to_server to_client octets two =
    let c : Situation = record { session = session_of image; direction = direction; server_room = length to_server; client_room = length to_client } in
    let k = (end_called (session_of image) direction (length to_server) (length to_client)).called in
    let ok = not_dead image (is_image image) ((end-two c).0 two).0.sound.live in
    sym (written_back image k refl (omega arith))
    ∙ (ap (λ (s : Session). put_at image 0 (image_of s)) (end-two-untouched c two).session ∙ record-lies image ok octets)
