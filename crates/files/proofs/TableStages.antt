-- The parts of a file, found one after the other, are the table's: the header, the four lists, the end.
--     PartsGot, parts_got    what is known of the parts of a file that is a table
--     parts_refused          where the parts are refused, so is the table
--     accepted               once the lists are kept, the answer and the memory are as the contract says
--     refused                and so they are where the parts are refused and nothing is stored
use mathlib.Core.Path.{◌≡◌, refl, sym, ap, subst, ◌∙◌}
use mathlib.Core.List.{List}
use Prim.Native.Nat.{ℕ, ◌≤◌}
use Rattle.std.specs.Prelude.{Ok, Err}
use borrow.Author.Tests.{le-ltb}
use lib.ListN.{length}
use lib.Dec.{ltb}
use Rattle.numbers.specs.declared.refusals.Refusal.{Refusal}
use Rattle.numbers.specs.Reading.{Out, got, bad, then}
use Rattle.numbers.proofs.ReadingLaws.{parts}
use Rattle.reader.proofs.EndLaws.{goes_on_for}
use Rattle.cells.specs.Columns.{step_columns, push_columns, pop_columns, error_columns}
use Rattle.lists.specs.Lists.{list_at}
use Rattle.lists.specs.Keeping.{Found, list_held}
use Rattle.lists.proofs.ListFits.{list_good}
use Rattle.files.specs.declared.header.Header.{Header}
use Rattle.files.specs.declared.table.Parts.{Parts}
use Rattle.files.specs.declared.table.TableRows.{TableRows}
use Rattle.files.specs.Table.{step_cells, push_cells, pop_cells, error_cells, most_steps, most_pushes, most_pops, most_errors}
use Rattle.files.specs.Header.{header_at}
use Rattle.files.specs.File.{step_of, push_of, pop_of, error_of, table_of, table_at, header_in, TableIs}
use Rattle.files.specs.Stages.{parts_at, steps_in, pushes_in, pops_in, errors_in, PartsKept}
use Rattle.files.proofs.RowKinds.{step_back, push_back, pop_back, error_back, cells_back, map_long}
use Rattle.files.proofs.TableLaws.{header_fits, header_back, at_end_lem}

-- ---- the parts of a table

pub record PartsGot (s : List ℕ) (p : Parts) : Type 0 where
  pub steps : List (List ℕ)
  pub pushes : List (List ℕ)
  pub pops : List (List ℕ)
  pub errors : List (List ℕ)
  pub end : ℕ
  pub header_was : header_at s ≡ got p.header p.steps
  pub steps_were : steps_in p s ≡ got steps p.pushes
  pub pushes_were : pushes_in p s ≡ got pushes p.pops
  pub pops_were : pops_in p s ≡ got pops p.errors
  pub errors_were : errors_in p s ≡ got errors end
  pub steps_many : p.counts.steps ≡ length steps
  pub pushes_many : p.counts.pushes ≡ length pushes
  pub pops_many : p.counts.pops ≡ length pops
  pub errors_many : p.counts.errors ≡ length errors
  pub is : table_at s ≡ got (table_of p.header steps pushes pops errors) end

table_is : (s : List ℕ) {h : Header} {a b c d : List (List ℕ)} {p₀ p₁ p₂ p₃ p : ℕ} → header_at s ≡ got h p₀
    → list_at most_steps (step_columns h.sizes) s p₀ ≡ got a p₁ → list_at most_pushes (push_columns h.sizes) s p₁ ≡ got b p₂
    → list_at most_pops (pop_columns h.sizes) s p₂ ≡ got c p₃ → list_at most_errors (error_columns h.sizes) s p₃ ≡ got d p
    → length s ≤ p → table_at s ≡ got (table_of h a b c d) p
unfolding table_at
table_is s {p = p} e₀ e₁ e₂ e₃ e₄ h = rw (e₀, e₁, e₂, e₃, e₄, le-ltb p (length s) h)

pub parts_got : (s : List ℕ) (p : Parts) (n : ℕ) → parts_at s ≡ got p n → PartsGot s p
unfolding parts_at
parts_got s p n e =
    let h = parts (header_at s) _ p n e in
    let a = parts (list_at most_steps (step_columns h.first.sizes) s h.place) _ p n h.rest in
    let b = parts (list_at most_pushes (push_columns h.first.sizes) s a.place) _ p n a.rest in
    let c = parts (list_at most_pops (pop_columns h.first.sizes) s b.place) _ p n b.rest in
    let d = parts (list_at most_errors (error_columns h.first.sizes) s c.place) _ p n c.rest in
    let z = at_end_lem (ltb d.place (length s)) _ p d.place n (length s) refl d.rest in
    subst (PartsGot s) z.0
    (record {
      steps = a.first;
      pushes = b.first;
      pops = c.first;
      errors = d.first;
      end = d.place;
      header_was = h.was;
      steps_were = a.was;
      pushes_were = b.was;
      pops_were = c.was;
      errors_were = d.was;
      steps_many = refl;
      pushes_many = refl;
      pops_many = refl;
      errors_many = refl;
      is = table_is s h.was a.was b.was c.was d.was z.2;
    })

-- ---- a refusal of the parts is one of the table

bad_too : {A B C : Type 0} (o : Out A) {f : A → ℕ → Out B} {g : A → ℕ → Out C} {x : Refusal}
    → ((a : A) (n : ℕ) → f a n ≡ bad x → g a n ≡ bad x) → then o f ≡ bad x → then o g ≡ bad x
bad_too (got a n) same e = same a n e
bad_too (bad y) {x = x} same e = let i : y ≡ x = cc in rw i

pub parts_refused : (s : List ℕ) {x : Refusal} → parts_at s ≡ bad x → table_at s ≡ bad x
unfolding parts_at table_at
parts_refused s =
    bad_too (header_at s) λ h p₀.
    bad_too (list_at most_steps (step_columns h.sizes) s p₀) λ steps p₁.
    bad_too (list_at most_pushes (push_columns h.sizes) s p₁) λ pushes p₂.
    bad_too (list_at most_pops (pop_columns h.sizes) s p₂) λ pops p₃.
    bad_too (list_at most_errors (error_columns h.sizes) s p₃) λ errors p.
    goes_on_for _ _ s p

-- ---- the answer and the memory

module _ {s : List ℕ} {rows : TableRows} where
  pub refused : {x : Refusal} → parts_at s ≡ bad x → TableIs s (Err x) rows rows
  refused e = let b = parts_refused s e in record { answer = rw b; steps = rw b; pushes = rw b; pops = rw b; errors = rw b }

  pub accepted : {rows' : TableRows} (p : Parts) {n : ℕ} → parts_at s ≡ got p n → PartsKept s p rows rows'
      → TableIs s (Ok (record { header = p.header; counts = p.counts })) rows rows'
  accepted p {n} e kept =
      let g = parts_got s p n e in
      let h = p.header in
      let z = h.sizes in
      let is = g.is in
      let header : h ≡ header_in (table_of h g.steps g.pushes g.pops g.errors) = sym (header_back h (header_fits s h p.steps g.header_was) g.steps g.pushes g.pops g.errors) in
      let k₁ = g.steps_many ∙ sym (map_long step_of g.steps) in
      let k₂ = g.pushes_many ∙ sym (map_long push_of g.pushes) in
      let k₃ = g.pops_many ∙ sym (map_long pop_of g.pops) in
      let k₄ = g.errors_many ∙ sym (map_long (error_of z.threads) g.errors) in
      let b₁ = cells_back step_of step_cells (step_columns z) (step_back z) (list_good _ _ _ _ _ _ g.steps_were).0 in
      let b₂ = cells_back push_of push_cells (push_columns z) (push_back z) (list_good _ _ _ _ _ _ g.pushes_were).0 in
      let b₃ = cells_back pop_of pop_cells (pop_columns z) (pop_back z) (list_good _ _ _ _ _ _ g.pops_were).0 in
      let b₄ = cells_back (error_of z.threads) error_cells (error_columns z) (error_back z) (list_good _ _ _ _ _ _ g.errors_were).0 in
      record {
        answer =
            rw is (λ i. Ok (record { header = header i; counts = record { steps = k₁ i; pushes = k₂ i; pops = k₃ i; errors = k₄ i } }));
        steps = rw (is, b₁) (kept.steps ∙ ap (λ (o : Out (List (List ℕ))). list_held o rows.steps) g.steps_were);
        pushes = rw (is, b₂) (kept.pushes ∙ ap (λ (o : Out (List (List ℕ))). list_held o rows.pushes) g.pushes_were);
        pops = rw (is, b₃) (kept.pops ∙ ap (λ (o : Out (List (List ℕ))). list_held o rows.pops) g.pops_were);
        errors = rw (is, b₄) (kept.errors ∙ ap (λ (o : Out (List (List ℕ))). list_held o rows.errors) g.errors_were);
      }

-- the four lists of a file that is a table are found
pub lists_found : (s : List ℕ) (p : Parts) (n : ℕ) → parts_at s ≡ got p n
    → Found (steps_in p s) × Found (pushes_in p s) × Found (pops_in p s) × Found (errors_in p s)
lists_found s p n e = let g = parts_got s p n e in ((_, _, g.steps_were), (_, _, g.pushes_were), (_, _, g.pops_were), (_, _, g.errors_were))
