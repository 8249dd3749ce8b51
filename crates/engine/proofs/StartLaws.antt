-- The memory with the start facts. They stand one after the other, each in its own thread's part of the P facts, so each put is a new mark:
-- from a clear memory there are as many marks as threads.
use mathlib.Core.Path.{◌≡◌, refl, sym, ap, subst, ◌∙◌}
use mathlib.Core.List.{List}
use Prim.Native.Nat.{ℕ, zero, suc, ◌+◌, ◌*◌, ◌<◌, ◌≤◌}
use native.Mathlib.Decide.{ℕ_discrete}
use native.Mathlib.Numerals.{add-one}
use native.Mathlib.Omega.{arith}
use lib.Arith.{digits_lt}
use Rattle.files.specs.Table.{Table, Sound, W}
use Rattle.model.specs.Taken.{begins}
use Rattle.model.specs.Rules.{start, start_fact}
use Rattle.model.specs.Positions.{Fits, pos}
use Rattle.model.specs.Memory.{Marked}
use Rattle.model.proofs.Positions.{pos_lt}
use Rattle.store.specs.Marking.{room, Has, marked, Clear}
use Rattle.positions.specs.Plans.{Plan, plan_of}
use Rattle.store.proofs.MarkLaws.{put_room, has_put, has_kept, has_before, clear_none, clear_bits, clear_total, marked_has, has_marked}
use Rattle.positions.proofs.PlanIsModel.{pos_p}
use Rattle.engine.specs.Given.{StartOf}
use Rattle.engine.specs.StartFacts.{start_at}
use Rattle.engine.specs.Starting.{begun}
use Rattle.engine.proofs.Derivable.{Derivable, derivable_put}

module _ (s : Plan) (g : ℕ) (locals : List ℕ) where
  pub begun_none : (m : List ℕ) → m ≡ begun s g locals 0 m
  unfolding begun
  begun_none m = refl

  -- one more start fact
  pub begun_next : (t : ℕ) (m : List ℕ) {m₁ m₂ : List ℕ} {p : ℕ} → p ≡ start_at s g locals t → m₁ ≡ begun s g locals t m
      → m₂ ≡ marked m₁ p → m₂ ≡ begun s g locals (t + 1) m
  unfolding begun
  begun_next t m {m₁} e h k = rw add-one (k ∙ ap (marked m₁) e ∙ ap (λ z. marked z (start_at s g locals t)) h)

  pub begun_room : (t : ℕ) (m : List ℕ) → room (begun s g locals t m) ≡ room m
  unfolding begun
  begun_room zero m = refl
  begun_room (suc t) m = put_room (begun s g locals t m) (start_at s g locals t) ∙ begun_room t m

module _ {T : Table} (sound : Sound T) {g₀ : ℕ} {locals : List ℕ} (of : StartOf T g₀ locals) where
  abbrev K : ℕ
  K = T.G * T.L

  -- where the P facts of t begin
  abbrev part : ℕ → ℕ
  part t = (plan_of T).p + t * K * K

  pub start_fits : (t : ℕ) → t < T.n → Fits T (start_fact T t)
  start_fits t h = (h, sound.g₀, sound.locals t h, sound.g₀, sound.locals t h)

  -- it stands where the run puts it
  pub start_is : (t : ℕ) → t < T.n → pos T (start_fact T t) ≡ start_at (plan_of T) g₀ locals t
  start_is t h =
      pos_p T t T.g₀ (begins T t) T.g₀ (begins T t) ∙ ap (λ g. part t + (g * T.L + begins T t) + (g * T.L + begins T t) * K) of.shared
      ∙ ap (λ l. part t + (g₀ * T.L + l) + (g₀ * T.L + l) * K) (of.local t h)

  -- a thread's start fact stands in its own part
  start_in : (t : ℕ) → t < T.n → (part t ≤ pos T (start_fact T t)) × (pos T (start_fact T t) < part (suc t))
  start_in t h =
      let c = digits_lt sound.g₀ (sound.locals t h) in
      let e = pos_p T t T.g₀ (begins T t) T.g₀ (begins T t) in
      (omega (arith, e), omega (arith, e, digits_lt c c))

  -- the start facts of t threads are marked, and nothing else
  pub record Begun (t : ℕ) (m : List ℕ) : Type 0 where
    pub derivable : Derivable T t m
    pub starts : (u : ℕ) → u < t → Marked T m (start_fact T u)
    pub beyond : (p : ℕ) → part t ≤ p → p < W T → ¬ Has m p

  begun_put : (t : ℕ) (m : List ℕ) → t < T.n → Begun t m → Begun (suc t) (marked m (pos T (start_fact T t)))
  begun_put t m h b =
      record {
        derivable = derivable_put (start_fact T t) fits refl (start t h) (b.beyond y (start_in t h).0 below) b.derivable;
        starts = λ u l. starts' u l (ℕ_discrete u t);
        beyond = λ p l l' k. b.beyond p (omega (arith, start_in t h)) l' (has_before m y p (omega (arith, start_in t h)) k);
      }
    where
      y : ℕ
      y = pos T (start_fact T t)

      fits : Fits T (start_fact T t)
      fits = start_fits t h

      below : y < W T
      below = pos_lt T (start_fact T t) fits

      in_room : y < room m
      in_room = omega (arith, below, b.derivable.long)

      starts' : (u : ℕ) → u < suc t → Dec (u ≡ t) → Marked T (marked m y) (start_fact T u)
      starts' u l (yes e) = subst (λ (z : ℕ). Marked T (marked m y) (start_fact T z)) (sym e) (has_marked _ fits refl (has_put m y in_room))
      starts' u l (no e) = let a = b.starts u (omega arith) in has_marked _ a.fits refl (has_kept m y _ in_room (marked_has a))

  pub begun_clear : (m : List ℕ) → W T ≤ room m → Clear m → (t : ℕ) → t ≤ T.n → Begun t (begun (plan_of T) g₀ locals t m)
  unfolding begun
  begun_clear m long clear zero h =
      record {
        derivable = record {
          long = long;
          bits = clear_bits m clear long;
          derives = λ f k. absurd (clear_none m clear (pos T f) (omega (arith, pos_lt T f k.fits)) (marked_has k));
          count = clear_total m clear (W T) long;
        };
        starts = λ u l. absurd (omega arith);
        beyond = λ p l l'. clear_none m clear p (omega arith);
      }
  begun_clear m long clear (suc t) h =
      subst (λ (y : ℕ). Begun (suc t) (marked (begun (plan_of T) g₀ locals t m) y)) (start_is t h)
      (begun_put t _ h (begun_clear m long clear t (omega arith)))
