-- The record's arrays behind each other in one slice, and back in arrays of their own.
use mathlib.Core.Path.{◌≡◌, sym, ap, ◌∙◌}
use mathlib.Core.Bool.{Bool}
use mathlib.Core.List.{List, ◌++◌, append_assoc}
use Prim.Native.Nat.{ℕ, ◌+◌, ◌≤◌}
use native.Mathlib.Omega.{arith}
use lib.ListN.{length, take, drop, replicate, length-append, length-drop, length-replicate}
use lib.Seq.{length-take-le, take_all, take_at, drop_at, drop-drop}
use Rattle.rules.specs.Lines.{most_held}
use Rattle.rules.specs.Answers.{most_owed}
use Rattle.rules.specs.Setup.{ipv6_width, ipv4_width}
use Rattle.records.specs.Layout.{lent_mapped, lent_server_address, lent_kinds, lent_command, lent_reply, lent_size}
use Rattle.output.specs.Buffer.{put_at}
use Rattle.output.proofs.Placing.{put-after}
use Rattle.output.proofs.Front.{filled}
use Rattle.records.specs.declared.Control.{Control}
use Rattle.steps.specs.Takes.{state_from, fixed_lent, state_lent}

-- one array is put behind those that are there
laid_next : (n : ℕ) (before a : List ℕ) (at : ℕ) → length before ≡ at → at + length a ≤ n → {x y : List ℕ}
    → x ≡ put_at (replicate n 0) 0 before → y ≡ put_at x at a → y ≡ put_at (replicate n 0) 0 (before ++ a)
laid_next n before a at size fits p q =
    let place : at ≡ 0 + length before = omega arith in
    q ∙ ((λ i. put_at (p i) (place i) a)
    ∙ put-after (replicate n 0) 0 before a (omega (arith, length-append before a, length-replicate {A = ℕ} n 0)))

module _ (client mapped server kinds command reply : List ℕ) (h₁ : length client ≡ ipv6_width) (h₂ : length mapped ≡ ipv4_width) (h₃ : length server ≡ ipv4_width)
    (h₄ : length kinds ≡ most_owed) (h₅ : length command ≡ most_held) (h₆ : length reply ≡ most_held) where
  abbrev lines : List ℕ
  lines = command ++ reply

  abbrev arrays : List ℕ
  arrays = client ++ (mapped ++ (server ++ (kinds ++ lines)))

  pub all_laid : {a b c d e f : List ℕ} → a ≡ put_at (replicate lent_size 0) 0 client → b ≡ put_at a lent_mapped mapped → c ≡ put_at b lent_server_address server → d ≡ put_at c lent_kinds kinds
      → e ≡ put_at d lent_command command → f ≡ put_at e lent_reply reply → f ≡ arrays
  all_laid p q r s t u =
      let two = client ++ mapped in
      let three = two ++ server in
      let four = three ++ kinds in
      let five = four ++ command in
      let l₂ = length-append client mapped in
      let l₃ = length-append two server in
      let l₄ = length-append three kinds in
      let l₅ = length-append four command in
      let l₆ = length-append five reply in
      let laid = laid_next lent_size five reply lent_reply (omega arith) (omega arith)
      (laid_next lent_size four command lent_command (omega arith) (omega arith)
      (laid_next lent_size three kinds lent_kinds (omega arith) (omega arith)
      (laid_next lent_size two server lent_server_address (omega arith) (omega arith) (laid_next lent_size client mapped lent_mapped h₁ (omega arith) p q) r) s) t) u in
      laid ∙ (filled lent_size (five ++ reply) (omega arith)
      ∙ (append_assoc four command reply ∙ (append_assoc three kinds lines ∙ (append_assoc two server (kinds ++ lines) ∙ append_assoc client mapped (server ++ (kinds ++ lines))))))

  module _ (lent : List ℕ) (e : lent ≡ arrays) where
    pub laid-size : length lent ≡ lent_size
    laid-size =
        ap length e
        ∙ omega (arith, h₁, h₂, h₃, h₄, h₅, h₆, length-append client (mapped ++ (server ++ (kinds ++ lines))), length-append mapped (server ++ (kinds ++ lines)), length-append server (kinds ++ lines), length-append kinds lines, length-append command reply)

    from-mapped : drop lent_mapped lent ≡ mapped ++ (server ++ (kinds ++ lines))
    from-mapped = ap (drop lent_mapped) e ∙ drop_at client (mapped ++ (server ++ (kinds ++ lines))) lent_mapped h₁

    from-server : drop lent_server_address lent ≡ server ++ (kinds ++ lines)
    from-server = sym (drop-drop ipv4_width lent_mapped lent) ∙ (ap (drop ipv4_width) from-mapped ∙ drop_at mapped (server ++ (kinds ++ lines)) ipv4_width h₂)

    from-kinds : drop lent_kinds lent ≡ kinds ++ lines
    from-kinds = sym (drop-drop ipv4_width lent_server_address lent) ∙ (ap (drop ipv4_width) from-server ∙ drop_at server (kinds ++ lines) ipv4_width h₃)

    from-lines : drop lent_command lent ≡ lines
    from-lines = sym (drop-drop most_owed lent_kinds lent) ∙ (ap (drop most_owed) from-kinds ∙ drop_at kinds lines most_owed h₄)

    -- what the arrays laid so fix, and their state
    pub laid-fixed : (supported strict : Bool)
        → fixed_lent supported strict lent ≡ record { client = client; mapped = mapped; server = server; supported = supported; strict = strict }
    laid-fixed supported strict =
        let first = ap (take ipv6_width) e ∙ take_at client (mapped ++ (server ++ (kinds ++ lines))) ipv6_width h₁ in
        let second = ap (take ipv4_width) from-mapped ∙ take_at mapped (server ++ (kinds ++ lines)) ipv4_width h₂ in
        let third = ap (take ipv4_width) from-server ∙ take_at server (kinds ++ lines) ipv4_width h₃ in
        λ i. record { client = first i; mapped = second i; server = third i; supported = supported; strict = strict }

    pub laid-state : (c : Control) → state_lent c lent ≡ state_from c command reply kinds
    laid-state c =
        let first = ap (take most_held) from-lines ∙ take_at command reply most_held h₅ in
        let second = ap (drop most_held) from-lines ∙ drop_at command reply most_held h₅ in
        let third = ap (take most_owed) from-kinds ∙ take_at kinds lines most_owed h₄ in
        λ i. state_from c (first i) (second i) (third i)

-- the state of the arrays that `take` left, each an array of its own again
pub arrays-back : (c : Control) (lent : List ℕ) → length lent ≡ lent_size → {k a b : List ℕ} → k ≡ put_at (replicate most_owed 0) 0 (take most_owed (drop lent_kinds lent))
    → a ≡ put_at (replicate most_held 0) 0 (take most_held (drop lent_command lent)) → b ≡ put_at (replicate most_held 0) 0 (take most_held (drop lent_reply lent))
    → state_from c a b k ≡ state_lent c lent
arrays-back c lent size o p q =
    let kinds = o ∙ filled most_owed (take most_owed (drop lent_kinds lent)) (length-take-le most_owed (drop lent_kinds lent) (omega (arith, length-drop lent_kinds lent))) in
    let command = p ∙ filled most_held (take most_held (drop lent_command lent)) (length-take-le most_held (drop lent_command lent) (omega (arith, length-drop lent_command lent))) in
    let rest = length-drop lent_reply lent in
    let whole = take_all most_held (drop lent_reply lent) (omega arith) in
    let reply = q ∙ (filled most_held (take most_held (drop lent_reply lent)) (length-take-le most_held (drop lent_reply lent) (omega arith)) ∙ (whole ∙ sym (drop-drop most_held lent_command lent))) in
    λ i. state_from c (command i) (reply i) (kinds i)
