-- The Telnet layer by cases: what an octet is, the state before it, and what it does.
use Rattle.std.proofs.Common.{◌≡◌, [], ℕ, ◌+◌, ◌%◌, ◌^◌, Bool, true, false, eqb, sym, refl, ap, ◌∙◌, true≢false, eq-eqb, ne_eqb}
use Rattle.rules.specs.Octets.{choose}
use Rattle.rules.specs.Answers.{wrapped}
use Rattle.rules.specs.Telnet.{after_iac, telnet_octet, layer_octet, to, answer_of, command_of, removed_after, is_clear}
use Rattle.rules.specs.declared.Telnet.{Telnet}
use Rattle.rules.specs.declared.Telnet.TheVariants.{Clear, Iac, Will, Wont, Do, Dont, Within, WithinIac}
use Rattle.rules.specs.declared.Does.{Does}
use Rattle.rules.specs.declared.Does.TheVariants.{Data, Nothing, AnswersDont, AnswersWont, Passes, Removes}
use Rattle.rules.specs.declared.TelnetStep.{TelnetStep}
use Rattle.rules.specs.declared.Layer.{Layer}
use Rattle.octets.proofs.Choices.{choose-true, choose-false}

-- a chain of tests: the octet is d, or it is not and the rest decides
module _ {A : Type 0} (x d : ℕ) {r : A} where
  pub is-it : {a : A} (b : A) → x ≡ d → r ≡ a → r ≡ choose (eqb x d) a b
  is-it {a} b e k = k ∙ sym (choose-true a b (eq-eqb x d e))

  pub is-not : (a : A) {b : A} → (x ≡ d → ⊥) → r ≡ b → r ≡ choose (eqb x d) a b
  is-not a {b} n k = k ∙ sym (choose-false a b (ne_eqb x d n))

-- a step by the octet behind 255, where it is known
pub octet-of : (d : ℕ) {x : ℕ} {r : TelnetStep} → x ≡ d → r ≡ after_iac d → r ≡ after_iac x
octet-of d e q = q ∙ ap after_iac (sym e)

-- a step by the state before it
pub step_of : (x : ℕ) {t u : Telnet} {r : TelnetStep} → t ≡ u → r ≡ telnet_octet u x → r ≡ telnet_octet t x
step_of x e q = q ∙ ap (λ (v : Telnet). telnet_octet v x) (sym e)

-- a step that only the state after it is tested for
pub state-of : (d : Does) {t u : Telnet} {r : TelnetStep} → r ≡ to t d → t ≡ u → r ≡ to u d
state-of d q e = q ∙ ap (λ (v : Telnet). to v d) e

-- the count, where octets are removed
pub removes : (n m : ℕ) {d : Does} {r : ℕ} → d ≡ Removes m → r ≡ (n + m) % 2 ^ 32 → r ≡ removed_after n d
unfolding wrapped
removes n m e q = q ∙ ap (removed_after n) (sym e)

-- what answers nothing, and what is no command
pub no-answer : (d : Does) → ((x : ℕ) → d ≡ AnswersDont x → ⊥) → ((x : ℕ) → d ≡ AnswersWont x → ⊥) → [] ≡ answer_of d
no-answer (Data y) f g = refl
no-answer Nothing f g = refl
no-answer (AnswersDont x) f g = absurd (f x refl)
no-answer (AnswersWont x) f g = absurd (g x refl)
no-answer (Passes x) f g = refl
no-answer (Removes n) f g = refl

pub no-command : (d : Does) → ((x : ℕ) → d ≡ Passes x → ⊥) → [] ≡ command_of d
no-command (Data y) f = refl
no-command Nothing f = refl
no-command (AnswersDont x) f = refl
no-command (AnswersWont x) f = refl
no-command (Passes x) f = absurd (f x refl)
no-command (Removes n) f = refl

-- an octet of a direction whose octets are no lines, and of one whose octets are
module _ (b : Bool) (l : Layer) (x : ℕ) where
  pub raw : b ≡ false → (l ≡ (layer_octet b l x).layer) × (Data x ≡ (layer_octet b l x).does)
  unfolding layer_octet
  raw e = rw e (refl, refl)

  pub layered : {s : TelnetStep} {n : ℕ} → b ≡ true → s ≡ telnet_octet l.telnet x → n ≡ removed_after l.removed s.does
      → (record { telnet = s.telnet; removed = n } ≡ (layer_octet b l x).layer) × (s.does ≡ (layer_octet b l x).does)
  unfolding layer_octet
  layered e q k = rw (e, k, q) (refl, refl)

-- no command is unfinished in one state only
pub clear-is : (t : Telnet) → is_clear t ≡ true → t ≡ Clear
clear-is Clear e = refl
clear-is Iac e = absurd (true≢false (sym e))
clear-is Will e = absurd (true≢false (sym e))
clear-is Wont e = absurd (true≢false (sym e))
clear-is Do e = absurd (true≢false (sym e))
clear-is Dont e = absurd (true≢false (sym e))
clear-is Within e = absurd (true≢false (sym e))
clear-is WithinIac e = absurd (true≢false (sym e))
