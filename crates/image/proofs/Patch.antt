-- An image of which the head and the arrays are written anew is the image of a record again.
use Rattle.std.proofs.Common.{◌≡◌, ℕ, ◌≤◌, List, ◌++◌, length, take, drop, sym, ap, ◌∙◌, append_assoc, zero-add, arith, length-append, take-append-drop, length-take-le, drop-drop, drop_at}
use borrow.Rule.Slice.PartMut.{put_mid, post_of}
use Rattle.records.specs.Layout.{client_at, image_size, lent_size}
use Rattle.output.specs.Buffer.{put_at}
use Rattle.output.proofs.Placing.{put-after}
use Rattle.output.proofs.Front.{front-put}

-- a text that lies at the front already
pub unchanged : (l text : List ℕ) → length text ≤ length l → text ≡ take (length text) l → put_at l 0 text ≡ l
unchanged l text room same =
    front-put l text room ∙ (ap (λ (x : List ℕ). x ++ drop (length text) l) same ∙ take-append-drop (length text) l)

-- so only what follows it needs to be put
pub rest_put : (l a b : List ℕ) → length (a ++ b) ≤ length l → a ≡ take (length a) l → put_at l (length a) b ≡ put_at l 0 (a ++ b)
rest_put l a b room same =
    let there = unchanged l a (omega (arith, length-append a b)) same in
    (λ i. put_at (sym there i) (sym (zero-add (length a)) i) b) ∙ put-after l 0 a b (omega arith)

module _ (image lent head : List ℕ) (room : image_size ≤ length image) (size : length lent ≡ lent_size) (front : length head ≡ client_at) where
  pub patched : put_at (put_mid client_at lent_size image lent) 0 head ≡ put_at image 0 (head ++ lent)
  patched =
      let first = length-take-le client_at image (omega arith) in
      let rest = lent ++ post_of client_at lent_size image in
      let long = length-append (take client_at image) rest in
      let both = length-append head lent in
      let behind : drop (length head) (put_mid client_at lent_size image lent) ≡ rest =
      ap (λ (n : ℕ). drop n (take client_at image ++ rest)) front ∙ drop_at (take client_at image) rest client_at first in
      let whole : length (head ++ lent) ≡ image_size = omega arith in
      let end : drop (length (head ++ lent)) image ≡ post_of client_at lent_size image =
      ap (λ (n : ℕ). drop n image) whole ∙ sym (drop-drop lent_size client_at image) in
      front-put (put_mid client_at lent_size image lent) head (omega arith)
      ∙ (ap (λ (l : List ℕ). head ++ l) behind
      ∙ (sym (append_assoc head lent (post_of client_at lent_size image))
      ∙ (ap (λ (l : List ℕ). (head ++ lent) ++ l) (sym end) ∙ sym (front-put image (head ++ lent) (omega arith)))))
