-- From the promise of a call to a host: an arrival goes on where there is room.
use mathlib.Core.Path.{◌≡◌, refl}
use mathlib.Core.Bool.{Bool, true, false}
use mathlib.Core.List.{List}
use Prim.Native.Nat.{ℕ, ◌+◌, ◌≤◌, ◌<◌}
use native.Mathlib.Omega.{arith}
use lib.ListN.{length, get_or, drop, length-drop}
use lib.Seq.{length-take-le, get_or-take, get_or-drop}
use borrow.Author.Tests.{leb-true}
use Rattle.rules.specs.Octets.{choose, every}
use Rattle.rules.specs.Lines.{judged, most_held}
use Rattle.rules.specs.Answers.{most_owed}
use Rattle.rules.specs.Demand3.{arrival, Return}
use Rattle.rules.specs.Setup.{ipv4_width}
use Rattle.records.specs.Layout.{image_size, opening_at, up_removed_at, down_removed_at, mapped_at, command_at, reply_at, kinds_at}
use Rattle.octets.proofs.Ranges.{and_both}
use Rattle.session.specs.Bounds.{Shaped, Progress}
use Rattle.setups.specs.Setups.{dead_session}
use Rattle.answers.proofs.Lengths.{is_octet, octets-all}
use Rattle.answers.proofs.Bounds.{progress}
use Rattle.image.specs.Image.{part, control_in, fields_in, is_image, session_of}
use Rattle.image.specs.Lent.{arrived_on}
use Rattle.image.proofs.Again.{number-low}
use Rattle.image.proofs.Back.{dead-sized}
use Rattle.hosts.specs.Memory.{outcome_at, HostPromise}
use Rattle.answers.proofs.Rows.{same_number}

dead-octets : every is_octet dead_session.fixed.mapped ≡ true
unfolding dead_session every
dead-octets = refl

-- memory is octets, and so the record that is read from it has the lengths and the octets of its types
module _ (image : List ℕ) (octets : (i : ℕ) → get_or image i 0 < 256) where
  part_length : (i n : ℕ) → i + n ≤ length image → length (part image i n) ≡ n
  part_length i n h = length-take-le n (drop i image) (omega (arith, length-drop i image))

  part-octets : (i n : ℕ) → i + n ≤ length image → every is_octet (part image i n) ≡ true
  part-octets i n h =
      octets-all (part image i n)
      (λ j less. rw (get_or-take n (drop i image) j 0 (omega (arith, part_length i n h)), get_or-drop i image j 0) (omega (arith, octets (i + j))))

  by-image : (b : Bool) → is_image image ≡ b → Shaped (choose b (fields_in image) dead_session)
  unfolding is_image choose fields_in control_in dead_session judged
  by-image true e =
      let room = leb-true image_size (length image) (and_both _ _ (and_both _ _ (and_both _ _ e).0).0).0 in
      record {
        mapped = part_length mapped_at ipv4_width (omega arith);
        octets = part-octets mapped_at ipv4_width (omega arith);
        command = part_length command_at most_held (omega arith);
        reply = part_length reply_at most_held (omega arith);
        kinds = part_length kinds_at most_owed (omega arith);
        opening = number-low image room octets opening_at;
        removed_up = number-low image room octets up_removed_at;
        removed_down = number-low image room octets down_removed_at;
      }
  by-image false e =
      record {
        mapped = dead-sized.mapped;
        octets = dead-octets;
        command = dead-sized.command;
        reply = dead-sized.reply;
        kinds = dead-sized.kinds;
        opening = omega arith;
        removed_up = omega arith;
        removed_down = omega arith;
      }

  image-shaped : Shaped (session_of image)
  unfolding session_of
  image-shaped = by-image (is_image image) refl

  pub progress-promised : (d : ℕ) (arriving out back : List ℕ) (t : Return (List ℕ)) → HostPromise image (arrival d arriving out back) t
      → Progress arriving (length out) (length back) t.answer t.taken
  unfolding outcome_at arrived_on
  progress-promised d arriving out back t p =
      progress (session_of image) d arriving (length out) (length back) image-shaped (same_number _ _ p.number) p.taken
