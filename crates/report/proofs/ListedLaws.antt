-- What the next mark is, is listed next.
--     next_short, next_none, next_line      what comes next, by a table's plan
--     goes_on                               after a line, the list goes on further on
--     got_header                            the header that was read is one
--     header_sizes                          a header that was read has a plan
use mathlib.Core.Path.{◌≡◌, ap, ◌∙◌}
use mathlib.Core.List.{List}
use Prim.Native.Nat.{ℕ, ◌+◌, ◌≤◌, ◌<◌}
use native.Mathlib.Omega.{arith}
use lib.ListN.{length}
use Rattle.numbers.specs.Reading.{got}
use Rattle.numbers.proofs.ReadingLaws.{never}
use Rattle.files.specs.declared.header.Header.{Header}
use Rattle.files.specs.Table.{Table, W, most_threads, most_shared, most_locals, most_frames}
use Rattle.files.specs.Header.{header_at}
use Rattle.files.proofs.TableLaws.{header_fits}
use Rattle.model.specs.Positions.{fact_at}
use Rattle.positions.specs.Plans.{Plan, plan_of}
use Rattle.store.specs.Marking.{Has, MarkFrom, NextMark}
use Rattle.positions.proofs.PlanIsModel.{w_is}
use Rattle.fact_text.specs.FactLines.{fact_line}
use Rattle.fact_text.specs.Facts.{plan_fact}
use Rattle.fact_text.proofs.FactLaws.{fact_of_table}
use Rattle.std.specs.Prelude.{Option, None, Some}
use Rattle.report.specs.declared.facts.ListedFact.{ListedFact}
use Rattle.report.specs.Listed.{Listed, NextIn, line, end, MarkedIn, NextOf, read, refused}

-- ---- what comes next

-- of a table with plan s
module _ (T : Table) {s : Plan} (is : s ≡ plan_of T) where
  w_of_lem : s.w ≡ W T
  w_of_lem = ap (λ (x : Plan). x.w) is ∙ w_is T

  module _ {mem : List ℕ} {from : ℕ} where
    -- what is listed is a mark, and in a memory with room for all facts the other way round
    mark_of : {p : ℕ} → Listed T (MarkedIn T mem) from p → MarkFrom mem from s.w p
    unfolding Has
    mark_of k = record { past = k.past; below = omega (arith, w_of_lem, k.below); has = k.here.one }

    listed_of : {p : ℕ} → s.w ≤ length mem → MarkFrom mem from s.w p → Listed T (MarkedIn T mem) from p
    unfolding Has
    listed_of r k =
        record { past = k.past; below = omega (arith, w_of_lem, k.below); here = record { enough = omega (arith, w_of_lem); one = k.has } }

    pub next_short : length mem < s.w → NextIn T (MarkedIn T mem) from None
    next_short l = end (λ p k. omega (arith, w_of_lem, k.here.enough))

    pub next_none : NextMark mem from s.w None → NextIn T (MarkedIn T mem) from None
    next_none none = end (λ p k. none p (mark_of k))

    pub next_line : {p : ℕ} {text : List ℕ} → s.w ≤ length mem → NextMark mem from s.w (Some p) → text ≡ fact_line (plan_fact s p)
        → NextIn T (MarkedIn T mem) from (Some (record { line = text; next = p + 1 }))
    next_line {p} {text} r f e =
        let is-line : text ≡ fact_line (fact_at T p) = e ∙ ap fact_line (ap (λ (x : Plan). plan_fact x p) is ∙ fact_of_table T p) in
        rw is-line (line (record { here = listed_of r f.here; none = λ q b i. f.none q b (mark_of i) }))

-- ---- going on

-- after a line the list goes on further on, and no further than the memory
pub record GoesOn (mem : List ℕ) (from next : ℕ) : Type 0 where
  pub further : from < next
  pub within : next ≤ length mem

module _ {mem : List ℕ} {from : ℕ} {fact : ListedFact} where
  goes_on_in : (T : Table) {r : Option ListedFact} → NextIn T (MarkedIn T mem) from r → r ≡ Some fact → GoesOn mem from fact.next
  goes_on_in T (line {p} f) e =
      let n : p + 1 ≡ fact.next = cc in
      record { further = omega (arith, f.here.past); within = omega (arith, f.here.below, f.here.here.enough) }
  goes_on_in T (end none) e = never (cc)

  pub goes_on : {s : List ℕ} {r : Option ListedFact} → NextOf s mem from r → r ≡ Some fact → GoesOn mem from fact.next
  goes_on (read _ n) e = goes_on_in _ n e
  goes_on (refused _) e = never (cc)

-- ---- the header

-- the header that was read is one
pub got_header : {h h' : Header} {n n' : ℕ} → got h n ≡ got h' n' → h ≡ h'
got_header e = cc

-- its sizes are within the limits, so it has a plan
pub header_sizes : (s : List ℕ) {h : Header} {p : ℕ} → header_at s ≡ got h p → let z = h.sizes in
    (0 < z.threads) × (z.threads ≤ most_threads) × (0 < z.shared) × (z.shared ≤ most_shared) × (0 < z.locals) × (z.locals ≤ most_locals)
    × (z.frames ≤ most_frames)
header_sizes s {h} {p} e =
    let f = header_fits s h p e in
    (f.threads.0, f.threads.1, f.shared.0, f.shared.1, f.locals.0, f.locals.1, f.frames)
