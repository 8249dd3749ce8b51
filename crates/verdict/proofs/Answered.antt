-- There is an answer of the search for the least relations of every sound table: their verdict, whose witness has a local store for each of at most
-- four threads, with 0 past these.
use mathlib.Core.Path.{◌≡◌, refl, sym, ◌∙◌}
use mathlib.Core.Option.{Option, none, some}
use mathlib.Core.List.{List}
use Prim.Native.Nat.{ℕ, zero, suc, ◌≤◌}
use native.Mathlib.Omega.{arith}
use lib.ListN.{length, get_or, take, get_or-eq_default}
use lib.Seq.{length-take-le, get_or-take, ext_get_or}
use Rattle.files.specs.Table.{Table, Sound}
use Rattle.files.specs.Header.{four_of}
use Rattle.model.specs.Rules.{Fact, Derives}
use Rattle.model.specs.Errors.{Witness}
use Rattle.model.specs.Verdict as model
use Rattle.model.specs.Verdict.{possible}
use Rattle.model.proofs.Decide.Answered.{verdict_exists}
use Rattle.verdict.specs.declared.search.Verdict.{Verdict}
use Rattle.verdict.specs.declared.search.Verdict.TheVariants.{Safe, Possible}
use Rattle.verdict.specs.Judged.{Answers}

-- ---- the first four numbers of a list, with 0 past its end

four_at : (ls : List ℕ) → length ls ≤ 4 → (t : ℕ) → get_or (four_of ls) t 0 ≡ get_or ls t 0
four_at ls h zero = refl
four_at ls h (suc zero) = refl
four_at ls h (suc (suc zero)) = refl
four_at ls h (suc (suc (suc zero))) = refl
four_at ls h (suc (suc (suc (suc t)))) = sym (get_or-eq_default ls 0 (omega arith))

four_take : {n : ℕ} (ls : List ℕ) → length ls ≡ n → n ≤ 4 → take n (four_of ls) ≡ ls
four_take {n} ls e h =
    let long : length (take n (four_of ls)) ≡ n = length-take-le n (four_of ls) (omega arith) in
    ext_get_or 0 (take n (four_of ls)) ls (omega arith) (λ t l. get_or-take n (four_of ls) t 0 (omega arith) ∙ four_at ls (omega arith) t)

-- ---- the answer

module _ {T : Table} (sound : Sound T) where
  answer_of : {S : Fact → Type 0} (v : Option Witness) → model.Verdict T S v → (r : Verdict) × Answers T S r
  answer_of none v = (Safe, record { verdict = v; padded = tt })
  answer_of {S} (some w) (possible s) =
      let ls = w.locals in
      let count = s.allowed.count in
      let same : take T.n (four_of ls) ≡ ls = four_take ls count sound.n.1 in (
        Possible (record { row = w.row; g = w.shared; locals = four_of ls }),
        record {
          verdict = rw same (possible s);
          padded = (refl, λ t h. four_at ls (omega (arith, sound.n.1)) t ∙ get_or-eq_default ls 0 (omega arith));
        },
      )

  pub answers_exist : (r : Verdict) × Answers T (Derives T) r
  answers_exist = let (v, judged) = verdict_exists sound in answer_of v judged
