-- What a `Result` was before `map_err` of a variant, by what it is after it.
use mathlib.Core.Path.{◌≡◌, refl, sym, ap}
use mathlib.Core.Bool.{true≢false}
use Rattle.std.specs.Prelude.{Result, Ok, Err, MatchResult, is_ok}

module _ {T E D : Type 0} where
  pub mapped_ok : (r : Result T E) {x : T} {a : Result T D} → a ≡ Ok x → MatchResult r (λ y. a ≡ Ok y) (λ e. ⊥) → r ≡ Ok x
  mapped_ok (Ok y) is m = cc
  mapped_ok (Err e) is m = absurd m

  pub mapped_err : (f : E → D) (r : Result T E) {d : D} → MatchResult r (λ y. Err d ≡ Ok y) (λ e. d ≡ f e) → (e : E) × (r ≡ Err e) × (d ≡ f e)
  mapped_err f (Ok y) m = absurd (true≢false (sym (ap (λ s. is_ok s) m)))
  mapped_err f (Err e) m = (e, refl, m)
