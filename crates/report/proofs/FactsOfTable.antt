-- Of a table that was read, what is listed next is the line of a fact of the table. After a finished check, when the memory holds the least
-- relations, it is the first fact from `from` on that they hold: no fact that holds is left out, and no other is listed.
use mathlib.Core.Path.{◌≡◌, refl, sym, ap, subst, ◌∙◌}
use mathlib.Core.List.{List, []}
use Prim.Native.Nat.{ℕ, ◌+◌, ◌<◌}
use native.Mathlib.Omega.{arith}
use Rattle.numbers.specs.Reading.{got}
use Rattle.numbers.proofs.ReadingLaws.{never}
use Rattle.files.specs.declared.header.Header.{Header}
use Rattle.files.specs.Table.{Table, w_of, W}
use Rattle.files.specs.File.{table_of, table_at}
use Rattle.files.proofs.TableLaws.{table_got}
use Rattle.model.specs.Rules.{Fact, Derives}
use Rattle.model.specs.Positions.{base_p, base_q, at_g, at_p, at_q, fact_at}
use Rattle.model.specs.Memory.{Holds}
use Rattle.model.proofs.Memory.{says_one, says_yes}
use Rattle.fact_text.specs.FactLines.{fact_line}
use Rattle.verdict.specs.declared.search.Verdict.{Verdict}
use Rattle.check_call.specs.Answer.{Done}
use Rattle.check_call.specs.Checking.{Checked, done}
use Rattle.check_call.specs.Checking as checked
use Rattle.std.specs.Prelude.{Option, Some}
use Rattle.report.specs.declared.facts.ListedFact.{ListedFact}
use Rattle.report.specs.Listed.{Listed, NextIn, line, end, MarkedIn, NextOf, read, refused}
use Rattle.report.proofs.ListedLaws.{got_header}

-- ---- what is listed hangs on W, the facts at positions and the set of positions alone

module _ {T T' : Table} (same_w : W T ≡ W T') (same-facts : (p : ℕ) → fact_at T p ≡ fact_at T' p) {A B : ℕ → Type 0}
    (to : (p : ℕ) → p < W T → A p → B p) (fro : (p : ℕ) → p < W T → B p → A p) {from : ℕ} where
  listed_to : {p : ℕ} → Listed T A from p → Listed T' B from p
  listed_to {p} k = record { past = k.past; below = omega (arith, same_w, k.below); here = to p k.below k.here }

  listed_fro : {p : ℕ} → Listed T' B from p → Listed T A from p
  listed_fro {p} k =
      let l : p < W T = omega (arith, same_w, k.below) in
      record { past = k.past; below = l; here = fro p l k.here }

  next_to : {r : Option ListedFact} → NextIn T A from r → NextIn T' B from r
  next_to (line {p} f) =
      subst (λ (x : Fact). NextIn T' B from (Some (record { line = fact_line x; next = p + 1 }))) (sym (same-facts p))
      (line (record { here = listed_to f.here; none = λ q b i. f.none q b (listed_fro i) }))
  next_to (end none) = end (λ p i. none p (listed_fro i))

-- ---- the header of a table gives its sizes

-- rows do not matter
with_rows : (h : Header) (steps pushes pops errors : List (List ℕ)) {mem : List ℕ} {from : ℕ} {r : Option ListedFact}
    → let T = table_of h [] [] [] [] in let T' = table_of h steps pushes pops errors in
    NextIn T (MarkedIn T mem) from r → NextIn T' (MarkedIn T' mem) from r
unfolding W w_of fact_at base_p base_q at_g at_p at_q
with_rows h steps pushes pops errors =
    next_to refl (λ p. refl) (λ p l m. record { enough = m.enough; one = m.one }) (λ p l m. record { enough = m.enough; one = m.one })

module _ (s : List ℕ) (T : Table) (n : ℕ) (is : table_at s ≡ got T n) where
  pub next_of_table : {mem : List ℕ} {from : ℕ} {r : Option ListedFact}
      → NextOf s mem from r → NextIn T (MarkedIn T mem) from r
  next_of_table {mem} {from} {r} (read {h} e k) =
      let g = table_got s T n is in
      let whole = ap (λ (x : Header). table_of x g.steps g.pushes g.pops g.errors) (got_header (sym e ∙ g.header_was)) ∙ sym g.is in
      subst (λ (x : Table). NextIn x (MarkedIn x mem) from r) whole (with_rows h g.steps g.pushes g.pops g.errors k)
  next_of_table (refused e) = let q = sym e ∙ (table_got s T n is).header_was in never (cc)

-- ---- the facts that are listed

-- of a table and a memory that holds a set of facts, these are listed
pub lists_facts : (s : List ℕ) (T : Table) (n : ℕ) → table_at s ≡ got T n
    → {S : Fact → Type 0} {mem : List ℕ} {from : ℕ} {r : Option ListedFact}
    → Holds T S mem → NextOf s mem from r → NextIn T (λ p. S (fact_at T p)) from r
lists_facts s T n is h k =
    next_to refl (λ p. refl) (λ p l m. says_one (h.says p l) m.one)
    (λ p l i. record { enough = h.long; one = says_yes (h.says p l) i })
    (next_of_table s T n is k)

-- after a finished check, those of the least relations
pub lists_checked : {s m m' : List ℕ} {budget count : ℕ} {verdict : Verdict} {from : ℕ} {r : Option ListedFact}
    → Checked s budget m (Done count verdict) m' → NextOf s m' from r
    → (T : Table) × (n : ℕ) × (table_at s ≡ got T n) × NextIn T (λ p. Derives T (fact_at T p)) from r
lists_checked {s} (checked.read {T} {next} e (done h f)) k = (T, next, e, lists_facts s T next e f.relations k)
