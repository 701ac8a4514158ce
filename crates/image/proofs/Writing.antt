-- The parts of an image written one after another, and their length.
use Rattle.std.proofs.Common.{◌≡◌, ℕ, ◌+◌, ◌≤◌, Bool, List, ◌++◌, length, sym, refl, ◌∙◌, subst, arith, length-append}
use Rattle.records.specs.Layout.{opening_at, client_at, image_size, lent_size}
use Rattle.output.specs.Buffer.{PutInRoom, put_at, position_after}
use Rattle.output.proofs.Placing.{Wrote, after-fits, joined}
use Rattle.records.specs.declared.Control.{Control}
use Rattle.records.specs.declared.Counts.{Counts}
use Rattle.records.specs.declared.Session.{Session}
use Rattle.image.specs.Image.{Sized, capped, four_octets, marks_from, numbers_by, numbers_from, marks_of, numbers_of, arrays_of, image_of}

-- a part that was put, and those behind it
pub and_then : (out : List ℕ) (at : ℕ) (a b : List ℕ) {after last : List ℕ} {next end : ℕ} → Wrote out at a next after
    → PutInRoom after next b end last → PutInRoom out at (a ++ b) end last
and_then out at a b one rest = joined out at a b (λ room. one) rest

-- the same, where those behind it are put at the place where it ends
pub behind : (out : List ℕ) (at : ℕ) (a b : List ℕ) (place : ℕ) {after last : List ℕ} {next end : ℕ} → place ≡ at + length a → PutInRoom out at a next after
    → PutInRoom after place b end last → PutInRoom out at (a ++ b) end last
behind out at a b place {after} {last} {next} {end} e one rest room =
    let first : at + length a ≤ length out = omega (arith, length-append a b) in
    let same : next ≡ place = (one first).0 ∙ (after-fits out at a first ∙ sym e) in
    joined out at a b one (subst (λ (n : ℕ). PutInRoom after n b end last) (sym same) rest) room

-- what a function promises that does not tell the next position
pub as-put : (out : List ℕ) (at : ℕ) (text : List ℕ) {last : List ℕ} → last ≡ put_at out at text → PutInRoom out at text (position_after out at text) last
as-put out at text e room = (refl, e)

-- numbers that were put, where they are the counts of a control, in 32 bits
pub numbers-put : (out : List ℕ) (c : Control) (up down : Counts) {owed command reply : ℕ} {last : List ℕ} → owed ≡ capped c.owed
    → command ≡ capped c.client.held → reply ≡ capped c.server.held
    → last ≡ put_at out opening_at (numbers_by c owed command reply up down) → last ≡ put_at out opening_at (numbers_from c up down)
numbers-put out c up down eo ec er put = put ∙ (λ i. put_at out opening_at (numbers_by c (eo i) (ec i) (er i) up down))

pub front_length : (live supported strict : Bool) (c : Control) (up down : Counts) → length (marks_from live supported strict c ++ numbers_from c up down) ≡ client_at
unfolding four_octets
front_length live supported strict c up down = refl

pub arrays-length : (s : Session) → Sized s → length (arrays_of s) ≡ lent_size
unfolding arrays_of
arrays-length s h =
    simp length-append (omega (arith, h.client, h.mapped, h.server, h.kinds, h.command, h.reply))

pub image-length : (s : Session) → Sized s → length (image_of s) ≡ image_size
unfolding image_of marks_of numbers_of four_octets
image-length s h = omega (arith, arrays-length s h)
