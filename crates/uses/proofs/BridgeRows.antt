-- Rules 4, 5 and 7: the uses of rows at positions, on the facts of a thread from one pair, are the uses of their rules.
use mathlib.Core.Path.{refl, sym, subst}
use mathlib.Core.Logic.{inl, inr}
use mathlib.Core.List.{List, Memᴰ}
use Prim.Native.Nat.{ℕ, ◌+◌, ◌*◌, ◌<◌}
use Rattle.files.specs.Table.{Table, Sound, Step, Push, Pop, StepFits, PushFits, PopFits}
use Rattle.model.specs.Taken.{Steps, Pushes, Pops}
use Rattle.model.specs.Rules.{Fact, G, P, Q, step_P, step_G, push_Q, push_P, pop_P}
use Rattle.model.specs.Positions.{pos}
use Rattle.model.specs.Memory.{Marked}
use Rattle.store.specs.declared.rows.Row.{Row}
use Rattle.store.specs.Marking.{Has}
use Rattle.positions.specs.Plans.{plan_of}
use Rattle.store.specs.Reading.{row_of, as_step, as_push, as_pop, Same}
use Rattle.positions.proofs.PlanIsModel.{pos_g, pos_p_stretch, pos_q_stretch}
use Rattle.uses.specs.Uses.{Uses}
use Rattle.uses.specs.RuleUses.{StepUse, PushUse, PopUse, OfRows, StepUses, PushUses, PopUses}
use Rattle.uses.proofs.Bridge.{Used, upto_at, used-from, Yielded, one_yields, g_stands, p_stands, q_stands}

-- ---- the first n rows and the table's list

module _ {A : Type 0} {of : Row → A} {rows : List ℕ} {n : ℕ} {l : List A} (same : Same of rows n l) where
  -- what holds of the first n rows holds of every row of the list
  each : (B : A → Type 0) → ((i : ℕ) → i < n → B (of (row_of rows i))) → (z : A) → Memᴰ z l → B z
  each B h z mem = let nth = same.fro z mem in subst B nth.here (h nth.i nth.lt)

  -- a use of one of the first n rows is a use of a row of the list, for the row's own thread
  of_one : {B : Type 0} (U : ℕ → Row → Uses) (t : ℕ) {q x y : ℕ} → ((r : Row) → Memᴰ (of r) l → U r.t r q x y → B)
      → OfRows t (U t) (row_of rows) n q x y → B
  of_one U t {q} {x} {y} h u =
      let (e, v) = u.given in
      let r = row_of rows u.k in
      h r (same.to u.k u.lt) (subst (λ (z : ℕ). U z r q x y) (sym e) v)

-- ---- from uses of the rules, by the facts from the pair of a and b

module _ (T : Table) (m : List ℕ) (n : ℕ) (rows : List ℕ) (a b : ℕ) where
  -- uses give f
  abbrev Gives : Uses → Fact → Type 0
  Gives U f = Used U m (pos T f)

  -- the rows of t
  abbrev StepsOf : ℕ → Uses
  StepsOf t = StepUses (plan_of T) t (a * T.L + b) (row_of rows) n

  abbrev PushesOf : ℕ → Uses
  PushesOf t = PushUses (plan_of T) t (a * T.L + b) rows n

  abbrev PopsOf : ℕ → Uses
  PopsOf t = PopUses (plan_of T) t (a * T.L + b) rows n

  -- rule 4
  abbrev StepGives : Step → Type 0
  StepGives z =
      Marked T m (P z.t a b z.g z.l)
      → Gives (StepsOf z.t) (P z.t a b z.g' z.l') × Gives (StepsOf z.t) (G z.t z.g z.g')

  pub step_used : Same as_step rows n T.steps → (z : Step) → Memᴰ z T.steps → StepGives z
  step_used same =
      each same StepGives (λ i lt h.
      let r = row_of rows i in
      let e = pos_p_stretch T r.t a b r.g r.l in (
        used-from h (upto_at i lt (refl, inl (e, e, pos_p_stretch T r.t a b r.u r.v))),
        used-from h (upto_at i lt (refl, inr (e, e, pos_g T r.t r.g r.u))),
      ))

  -- rule 5
  abbrev PushGives : Push → Type 0
  PushGives z =
      Marked T m (P z.t a b z.g z.l)
      → Gives (PushesOf z.t) (Q z.t a b z.f z.g z.l') × Gives (PushesOf z.t) (P z.t z.g z.l' z.g z.l')

  pub push_used : Same as_push rows n T.pushes → (z : Push) → Memᴰ z T.pushes → PushGives z
  push_used same =
      each same PushGives (λ i lt h.
      let r = row_of rows i in
      let e = pos_p_stretch T r.t a b r.g r.l in (
        used-from h (upto_at i lt (refl, inl (e, e, pos_q_stretch T r.t a b r.v r.g r.u))),
        used-from h (upto_at i lt (refl, inr (e, e, pos_p_stretch T r.t r.g r.u r.g r.u))),
      ))

  -- rule 7
  abbrev PopGives : Pop → Type 0
  PopGives z = Marked T m (Q z.t a b z.f z.g z.l) → Gives (PopsOf z.t) (P z.t a b z.g z.l')

  pub pop_used : Same as_pop rows n T.pops → (z : Pop) → Memᴰ z T.pops → PopGives z
  pop_used same =
      each same PopGives (λ i lt h.
      let r = row_of rows i in
      let e = pos_q_stretch T r.t a b r.u r.g r.l in
      used-from h (upto_at i lt (refl, (e, e, pos_p_stretch T r.t a b r.g r.v))))

-- ---- to uses of the rules, on the facts from pair a: by one row, and by the first n

module _ {T : Table} (sound : Sound T) {m : List ℕ} {a q x y : ℕ} (ah : a < T.G * T.L) (h : Has m x) where
  -- rule 4
  step_one : (r : Row) → StepFits T (as_step r) → Steps T r.t r.g r.l r.u r.v → StepUse (plan_of T) r.t a r q x y → Yielded T m y
  step_one r ok row (inl u) =
      one_yields (p_stands sound ok.t ah ok.g ok.l) (p_stands sound ok.t ah ok.g' ok.l') (λ p. step_P p row) u h
  step_one r ok row (inr u) =
      one_yields (p_stands sound ok.t ah ok.g ok.l) (g_stands ok.t ok.g ok.g') (λ p. step_G p row) u h

  pub step_yields : (t : ℕ) {n : ℕ} {rows : List ℕ} → Same as_step rows n T.steps → StepUses (plan_of T) t a (row_of rows) n q x y → Yielded T m y
  step_yields t same =
      of_one same (λ (t : ℕ). StepUse (plan_of T) t a) t
      (λ r row. step_one r (sound.steps.fits _ row) (record { row = row; taken = tt }))

  -- rule 5
  push_one : (r : Row) → PushFits T (as_push r) → Pushes T r.t r.g r.l r.u r.v → PushUse (plan_of T) r.t a r q x y → Yielded T m y
  push_one r ok row (inl u) =
      one_yields (p_stands sound ok.t ah ok.g ok.l) (q_stands sound ok.t ah ok.f ok.g ok.l') (λ p. push_Q p row) u h
  push_one r ok row (inr u) =
      one_yields (p_stands sound ok.t ah ok.g ok.l)
      (record { fits = (ok.t, ok.g, ok.l', ok.g, ok.l'); here = pos_p_stretch T r.t r.g r.u r.g r.u }) (λ p. push_P p row) u h

  pub push_yields : (t : ℕ) {n : ℕ} {rows : List ℕ} → Same as_push rows n T.pushes → PushUses (plan_of T) t a rows n q x y → Yielded T m y
  push_yields t same =
      of_one same (λ (t : ℕ). PushUse (plan_of T) t a) t
      (λ r row. push_one r (sound.pushes.fits _ row) (record { row = row; taken = tt }))

  -- rule 7
  pop_one : (r : Row) → PopFits T (as_pop r) → Pops T r.t r.g r.l r.u r.v → PopUse (plan_of T) r.t a r q x y → Yielded T m y
  pop_one r ok row u =
      one_yields (q_stands sound ok.t ah ok.f ok.g ok.l) (p_stands sound ok.t ah ok.g ok.l') (λ p. pop_P p row) u h

  pub pop_yields : (t : ℕ) {n : ℕ} {rows : List ℕ} → Same as_pop rows n T.pops → PopUses (plan_of T) t a rows n q x y → Yielded T m y
  pop_yields t same =
      of_one same (λ (t : ℕ). PopUse (plan_of T) t a) t
      (λ r row. pop_one r (sound.pops.fits _ row) (record { row = row; taken = tt }))
