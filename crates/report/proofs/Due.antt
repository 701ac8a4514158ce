-- Whether an entry is due, test by test, and what is known of one that is.
use mathlib.Core.Path.{◌≡◌, refl, sym, ◌∙◌}
use mathlib.Core.Bool.{Bool, true, false, ◌&&◌, not}
use mathlib.Core.List.{List}
use Prim.Native.Nat.{ℕ, ◌+◌, ◌-◌, ◌*◌, ◌<◌, ◌≤◌}
use native.Mathlib.Omega.{arith}
use lib.Dec.{eqb, leb, ltb}
use lib.ListN.{length, take, drop, length-drop}
use lib.Seq.{length-take-le}
use borrow.Author.Tests.{eq-eqb, ne_eqb, lt-ltb, le-ltb, le-leb, lt-leb, eqb-false, ltb-true, leb-true, leb-false, not-true}
use Rattle.octets.proofs.Ranges.{and_both}
use Rattle.std.specs.Prelude.{Result, Ok, Err, is_ok}
use Rattle.files.specs.declared.FileFault.{FileFault}
use Rattle.files.specs.Contents.{pair_at, count, verdict}
use Rattle.files.proofs.Tables.{length_at}
use Rattle.files.proofs.Accepted.{Accepted, accepted, Right, entry-right, entry-within}
use Rattle.report.specs.declared.Replay.{Replay}
use Rattle.report.specs.Replays.{entry_at, is_due}

-- ---- test by test

shift : (at n size : ℕ) → n ≤ size → (b : Bool) → leb at (size - n) ≡ b → b ≡ leb (at + n) size
shift at n size h true t = sym (le-leb (at + n) size (omega (arith, leb-true at (size - n) t)))
shift at n size h false t = sym (lt-leb (at + n) size (omega (arith, leb-false at (size - n) t)))

module _ (file : List ℕ) (r : Replay) where
  pub none_left : r.left ≡ 0 → false ≡ is_due file r
  unfolding is_due
  none_left h = rw (eq-eqb r.left 0 h)

  module _ (some : r.left ≡ 0 → ⊥) where
    pub refused : is_ok (verdict file) ≡ false → false ≡ is_due file r
    unfolding is_due
    refused h = rw (ne_eqb r.left 0 some, h)

    module _ (ok : is_ok (verdict file) ≡ true) (n : ℕ) (size : n ≡ pair_at file 0) where
      pub no-entry : n ≤ r.number → false ≡ is_due file r
      unfolding is_due count
      no-entry h = rw (ne_eqb r.left 0 some, ok, ← size, le-ltb r.number n h)

      module _ (more : r.number < n) (l : ℕ) (long : l ≡ pair_at file (2 + 4 * r.number + 2)) where
        long-enough : is_due file r ≡ leb (r.body + l) (length file)
        unfolding is_due count
        long-enough = rw (ne_eqb r.left 0 some, ok, ← size, lt-ltb r.number n more, length_at file (2 + 4 * r.number), ← long)

        pub no_body : length file < l → false ≡ is_due file r
        no_body h = rw (long-enough, lt-leb (r.body + l) (length file) (omega arith))

        pub body-decides : l ≤ length file → leb r.body (length file - l) ≡ is_due file r
        body-decides h = rw long-enough (shift r.body l (length file) h (leb r.body (length file - l)) refl)

-- ---- an entry that is due

by-verdict : (v : Result Unit FileFault) → is_ok v ≡ true → v ≡ Ok tt
by-verdict (Err fault) e = cc
by-verdict (Ok tt) e = refl

pub record Due (file : List ℕ) (r : Replay) : Type 0 where
  pub some : 1 ≤ r.left
  pub file-right : Accepted file
  pub number : r.number < 48
  pub within : 2 + 4 * r.number + 4 ≤ length file
  pub body : r.body + (entry_at file r).length ≤ length file
  pub right : Right (entry_at file r)

pub due : (file : List ℕ) (r : Replay) → is_due file r ≡ true → Due file r
unfolding is_due
due file r e =
    let p = and_both (not (eqb r.left 0) && is_ok (verdict file) && ltb r.number (count file)) _ e in
    let q = and_both (not (eqb r.left 0) && is_ok (verdict file)) _ p.0 in
    let v = and_both (not (eqb r.left 0)) _ q.0 in
    let a = accepted file (by-verdict (verdict file) v.1) in
    let less = ltb-true r.number (count file) q.1 in
    record {
      some = omega (arith, eqb-false r.left 0 (not-true _ v.0));
      file-right = a;
      number = omega (arith, a.few);
      within = entry-within file a r.number less;
      body = leb-true _ _ p.1;
      right = entry-right file a r.number less;
    }

-- the body of l octets, as the code takes it
module _ (file : List ℕ) (r : Replay) (e : is_due file r ≡ true) {l : ℕ} (long : l ≡ pair_at file (2 + 4 * r.number + 2)) where
  same_length : (entry_at file r).length ≡ l
  same_length = length_at file (2 + 4 * r.number) ∙ sym long

  pub body-within : r.body + l ≤ length file
  body-within = omega (arith, (due file r e).body, same_length)

  pub body-length : length (take (r.body + l - r.body) (drop r.body file)) ≡ l
  body-length =
      let all : r.body + l - r.body ≡ l = omega arith in
      rw (all, length-take-le l (drop r.body file) (rw length-drop (omega (arith, body-within))))

  pub body-most : length (take (r.body + l - r.body) (drop r.body file)) ≤ 1024
  body-most = omega (arith, body-length, (due file r e).right.most, same_length)
