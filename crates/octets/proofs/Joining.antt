-- Readings one after the other: the laws of `both`.
use mathlib.Core.Path.{◌≡◌, refl, sym}
use mathlib.Core.List.{List, [], ◌++◌, append_assoc, append-nil}
use Rattle.std.specs.Prelude.{Option, None, Some}
use Prim.Native.Nat.{ℕ}
use Rattle.rules.specs.Address.{both}

pub both-start : (o : Option (List ℕ)) → both (Some []) o ≡ o
unfolding both
both-start None = refl
both-start (Some a) = refl

pub both-none : (o : Option (List ℕ)) → both o None ≡ None
unfolding both
both-none None = refl
both-none (Some a) = refl

pub both_end : (o : Option (List ℕ)) → both o (Some []) ≡ o
unfolding both
both_end None = refl
both_end (Some a) = rw append-nil

pub both-both : (a b c : Option (List ℕ)) → both (both a b) c ≡ both a (both b c)
unfolding both
both-both None b c = refl
both-both (Some a) None c = refl
both-both (Some a) (Some b) None = refl
both-both (Some a) (Some b) (Some c) = rw append_assoc

pub both-join : (a b : List ℕ) (o : Option (List ℕ)) → both (Some a) (both (Some b) o) ≡ both (Some (a ++ b)) o
unfolding both
both-join a b o = sym (both-both (Some a) (Some b) o)
