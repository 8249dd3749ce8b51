-- Whether two names are the same is determined, and so is memory of zeros: a contract as the prover reads it from the source (`Post`) allows one
-- answer.
use mathlib.Core.Path.{◌≡◌, refl, sym, ◌∙◌}
use mathlib.Core.Bool.{Bool, true, false}
use mathlib.Core.List.{List}
use Prim.Native.Nat.{ℕ}
use mir.Syntax.{w64}
use mir.Val.{Fits}
use contract.Lifetimes.{Lfts}
use denote.Triple.Clauses.{AtExit}
use borrow.Fn.Kinds.{Dens, ended_of}
use Rattle.inputs.specs.Names.{SameName}
use native.Mathlib.Omega.{arith}
use Rattle.std.specs.Prelude.{All, length}
use Rattle.std.proofs.lemmas.List.{same_lists}
use Rattle.inputs.proofs.names.same_name.Reads as same_name
use Rattle.inputs.proofs.names.same_name.Kinds as same-name-kinds
use Rattle.inputs.proofs.memory.zeros.Reads as zeros
use Rattle.inputs.proofs.memory.zeros.Kinds as zeros-kinds

same_unique : (a b : List ℕ) (r r' : Bool) → SameName a b r → SameName a b r' → r ≡ r'
same_unique a b true true s t = refl
same_unique a b true false s t = absurd (t s)
same_unique a b false true s t = absurd (s t)
same_unique a b false false s t = refl

pub same_name_fixes : (κs : Lfts 2) (a : Dens κs same-name-kinds.ps) (x x' : Bool)
    (s s' : AtExit (ended_of 2 same-name-kinds.ps same-name-kinds.r) κs) → same_name.Post κs a x s → same_name.Post κs a x' s' → x ≡ x'
same_name_fixes κs a x x' s s' = same_unique _ _ x x'

-- so many zeros are one list
zeros_same : (n : ℕ) (x x' : List ℕ) → n ≡ length x → n ≡ length x' → All (λ b. b ≡ 0) x → All (λ b. b ≡ 0) x' → x ≡ x'
zeros_same n x x' e e' z z' =
    same_lists x x' (sym e ∙ e') (λ k d h. z k d h ∙ sym (z' k d (omega arith)))

pub zeros_fixes : (n : ℕ) (fits : Fits w64 n) (κs : Lfts 1) (a : Dens κs (zeros-kinds.ps n fits)) (x x' : List ℕ)
    (s s' : AtExit (ended_of 1 (zeros-kinds.ps n fits) (zeros-kinds.r n fits)) κs)
    → zeros.Post n fits κs a x s → zeros.Post n fits κs a x' s' → x ≡ x'
zeros_fixes n fits κs a x x' s s' (long, zero) (long', zero') = zeros_same n x x' long long' zero zero'
