-- How the queue will settle, in numbers: own answers wait, they go, or there are none.
use mathlib.Core.Path.{◌≡◌, refl, sym, ap, ◌∙◌}
use mathlib.Core.Bool.{Bool, true, false}
use mathlib.Core.List.{List}
use Prim.Native.Nat.{ℕ, ◌+◌}
use native.Mathlib.Omega.{arith}
use lib.ListN.{length, drop}
use Rattle.rules.specs.Octets.{choose}
use Rattle.rules.specs.Replies.{head_answers, auth_at_head}
use Rattle.rules.specs.declared.Kind.{Kind}
use Rattle.queue.specs.declared.Plan.{Plan}
use Rattle.queue.specs.Kinds.{answers_at_head}
use Rattle.queue.specs.Heads.{plan_of}
use Rattle.queue.proofs.Answers.{answers-none}

abbrev planned : ℕ → ℕ → Bool → Plan
planned leaving answers auth = record { leaving = leaving; answers = answers; auth = auth }

module _ (ks : List Kind) (n : ℕ) where
  pub plan-waits : {b auth : Bool} → b ≡ true → auth ≡ auth_at_head (drop n ks) → planned n 0 auth ≡ plan_of b ks n
  unfolding plan_of choose
  plan-waits e a = (λ i. planned n 0 (a i)) ∙ ap (λ (t : Bool). plan_of t ks n) (sym e)

  pub plan-goes : {b auth : Bool} {until size : ℕ} → b ≡ false → until ≡ n + answers_at_head (drop n ks)
      → size ≡ length (head_answers (drop n ks)) → auth ≡ auth_at_head (drop until ks) → planned until size auth ≡ plan_of b ks n
  unfolding plan_of choose
  plan-goes e u z a =
      let first = a ∙ ap (λ (m : ℕ). auth_at_head (drop m ks)) u in
      (λ i. planned (u i) (z i) (first i)) ∙ ap (λ (t : Bool). plan_of t ks n) (sym e)

  pub plan-still : answers_at_head (drop n ks) ≡ 0 → auth_at_head (drop n ks) ≡ false → (b : Bool) → planned n 0 false ≡ plan_of b ks n
  plan-still none other true = plan-waits refl (sym other)
  plan-still none other false =
      plan-goes refl (omega (arith, none)) (sym (ap (λ (l : List ℕ). length l) (answers-none (drop n ks) none))) (sym other)
