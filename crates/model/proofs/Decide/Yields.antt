-- What one use of a rule yields from a list of facts, as a list: each fact is tried with each row and with each fact. The list is exact, so
-- it decides whether the facts of a list hold the start facts and are closed.
use mathlib.Core.Path.{◌≡◌, refl, sym}
use mathlib.Core.Logic.Dec
use mathlib.Core.Logic.{◌≢◌}
use mathlib.Core.List.Memᴰ
use mathlib.Core.List.{List, [], ◌∷◌, ◌++◌, flat_map, Memᴰ}
use Prim.Native.Nat.{ℕ}
use native.Mathlib.Decide.{ℕ_discrete, map_dec}
use Rattle.files.specs.Table.{Table, Step, Push, Pop}
use Rattle.model.specs.Taken.{Taken, Steps, Pushes, Pops}
use Rattle.model.specs.Rules.{
  Fact,
  Fact-discrete,
  G,
  P,
  Q,
  Yields,
  env_P,
  env_Q,
  step_P,
  step_G,
  push_Q,
  push_P,
  call,
  pop_P,
  start_fact,
  Starts,
  ClosedWithStarts,
}
use Rattle.model.proofs.Lists.{
  mem_first,
  mem_second,
  from_one,
  from_two,
  from_append,
  from_flat_map,
  to_flat_map,
  only,
  from_only,
  to_only,
  gather,
  from_gather,
  to_gather,
}
use Rattle.model.proofs.Decide.{each?, member?, all?, Enumerates}

-- whether two facts are one
unfoldable pub fact? : Discrete Fact
unfolding ℕ_discrete
fact? = Fact-discrete ℕ_discrete

-- whether rows at local store l are taken
taken? : (T : Table) (l : ℕ) → Dec (Taken T l)
taken? T l = yes tt

-- whether two threads are one and at one place, and whether a row there is taken
abbrev Same : ℕ → ℕ → ℕ → ℕ → ℕ → ℕ → Type 0
Same t g l t' g' l' = (t ≡ t') × ((g ≡ g') × (l ≡ l'))

same? : (t g l t' g' l' : ℕ) → Dec (Same t g l t' g' l')
unfolding Dec.and ℕ_discrete
same? t g l t' g' l' = Dec.and (ℕ_discrete t t') (Dec.and (ℕ_discrete g g') (ℕ_discrete l l'))

row? : (T : Table) (t g l t' g' l' : ℕ) → Dec (Same t g l t' g' l' × Taken T l')
unfolding same? taken?
row? T t g l t' g' l' = Dec.and (same? t g l t' g' l') (taken? T l')

-- whether another thread has a guarantee from the shared store
other? : (t e g g' : ℕ) → Dec ((g ≡ g') × (e ≢ t))
unfolding Dec.and Dec.not ℕ_discrete
other? t e g g' = Dec.and (ℕ_discrete g g') (Dec.not (ℕ_discrete e t))

-- ---- the list

module _ (T : Table) where
  -- rules 4, 5 and 7
  by_step : (t g₁ l₁ g₂ l₂ : ℕ) → List Fact
  by_step t g₁ l₁ g₂ l₂ =
      gather (λ r. row? T r.t r.g r.l t g₂ l₂) (λ r. P t g₁ l₁ r.g' r.l' ∷ G t g₂ r.g' ∷ []) T.steps

  by_push : (t g₁ l₁ g₂ l₂ : ℕ) → List Fact
  by_push t g₁ l₁ g₂ l₂ =
      gather (λ r. row? T r.t r.g r.l t g₂ l₂) (λ r. Q t g₁ l₁ r.f g₂ r.l' ∷ P t g₂ r.l' g₂ r.l' ∷ []) T.pushes

  by_pop : (t g₁ l₁ f g₂ l₂ : ℕ) → List Fact
  by_pop t g₁ l₁ f g₂ l₂ =
      gather (λ r. Dec.and (ℕ_discrete r.f f) (row? T r.t r.g r.l t g₂ l₂)) (λ r. P t g₁ l₁ g₂ r.l' ∷ []) T.pops

  by_rows : Fact → List Fact
  by_rows (G _ _ _) = []
  by_rows (P t g₁ l₁ g₂ l₂) = by_step t g₁ l₁ g₂ l₂ ++ by_push t g₁ l₁ g₂ l₂
  by_rows (Q t g₁ l₁ f g₂ l₂) = by_pop t g₁ l₁ f g₂ l₂

  -- rules 2, 3 and 6
  by_fact : Fact → Fact → List Fact
  by_fact (G _ _ _) q = []
  by_fact (P t g₁ l₁ g₂ l₂) (G e g g₃) = only (other? t e g g₂) (P t g₁ l₁ g₃ l₂ ∷ [])
  by_fact (P _ _ _ _ _) (P _ _ _ _ _) = []
  by_fact (P _ _ _ _ _) (Q _ _ _ _ _ _) = []
  by_fact (Q t g₁ l₁ f g₂ l₂) (G e g g₃) = only (other? t e g g₂) (Q t g₁ l₁ f g₃ l₂ ∷ [])
  by_fact (Q t g₁ l₁ f g₂ l₂) (P e g l g₃ l₃) = only (same? e g l t g₂ l₂) (Q t g₁ l₁ f g₃ l₃ ∷ [])
  by_fact (Q _ _ _ _ _ _) (Q _ _ _ _ _ _) = []

  unfoldable pub consequences : List Fact → List Fact
  unfolding flat_map gather only row? other? by_step by_push by_pop by_rows by_fact
  consequences fs = flat_map (λ p. by_rows p ++ flat_map (by_fact p) fs) fs

  -- what one more fact yields by the rows, with the others, and they with it
  unfoldable pub further : Fact → List Fact → List Fact
  unfolding flat_map gather only row? other? by_step by_push by_pop by_rows by_fact
  further f fs = by_rows f ++ (flat_map (by_fact f) fs ++ flat_map (λ p. by_fact p f) fs)

-- ---- the list is exact

-- a row of thread t at g, l
module _ (T : Table) {t g l : ℕ} where
  steps_at : (r : Step) → Memᴰ r T.steps → Same r.t r.g r.l t g l × Taken T l → Steps T t g l r.g' r.l'
  steps_at r m ((a, (b, c)), k) =
      record { row = Memᴰ.cast (λ i. record { t = sym a i; g = sym b i; l = sym c i; g' = r.g'; l' = r.l' }) m; taken = k }

  pushes_at : (r : Push) → Memᴰ r T.pushes → Same r.t r.g r.l t g l × Taken T l → Pushes T t g l r.l' r.f
  pushes_at r m ((a, (b, c)), k) =
      record { row = Memᴰ.cast (λ i. record { t = sym a i; g = sym b i; l = sym c i; l' = r.l'; f = r.f }) m; taken = k }

  pops_at : {f : ℕ} (r : Pop) → Memᴰ r T.pops → (r.f ≡ f) × (Same r.t r.g r.l t g l × Taken T l) → Pops T t g l f r.l'
  pops_at r m (d, ((a, (b, c)), k)) =
      record { row = Memᴰ.cast (λ i. record { t = sym a i; g = sym b i; l = sym c i; f = sym d i; l' = r.l' }) m; taken = k }

module _ (T : Table) (fs : List Fact) where
  abbrev In : Fact → Type 0
  In f = Memᴰ f fs

  abbrev Yielded : Fact → Type 0
  Yielded = Yields T In

  rows_sound : (p : Fact) → In p → (f : Fact) → Memᴰ f (by_rows T p) → Yielded f
  unfolding by_step by_push by_pop by_rows
  rows_sound (G _ _ _) i f m = elim m [ ]
  rows_sound (P t g₁ l₁ g₂ l₂) i f m =
      from_append Yielded (by_step T t g₁ l₁ g₂ l₂) (by_push T t g₁ l₁ g₂ l₂)
      (λ f m. let (r, j, e, n) = from_gather _ _ T.steps m in let s = steps_at T r j e in from_two Yielded (step_P i s) (step_G i s) n)
      (λ f m. let (r, j, e, n) = from_gather _ _ T.pushes m in let s = pushes_at T r j e in from_two Yielded (push_Q i s) (push_P i s) n)
      m
  rows_sound (Q t g₁ l₁ h g₂ l₂) i f m = let (r, j, e, n) = from_gather _ _ T.pops m in from_one Yielded (pop_P i (pops_at T r j e)) n

  facts_sound : (p q : Fact) → In p → In q → (f : Fact) → Memᴰ f (by_fact T p q) → Yielded f
  unfolding by_fact
  facts_sound (G _ _ _) q i j f m = elim m [ ]
  facts_sound (P t g₁ l₁ g₂ l₂) (G e g g₃) i j f m = let ((c, ne), n) = from_only _ m in from_one Yielded (env_P i (rw c at j) ne) n
  facts_sound (P _ _ _ _ _) (P _ _ _ _ _) i j f m = elim m [ ]
  facts_sound (P _ _ _ _ _) (Q _ _ _ _ _ _) i j f m = elim m [ ]
  facts_sound (Q t g₁ l₁ h g₂ l₂) (G e g g₃) i j f m = let ((c, ne), n) = from_only _ m in from_one Yielded (env_Q i (rw c at j) ne) n
  facts_sound (Q t g₁ l₁ h g₂ l₂) (P e g l g₃ l₃) i j f m =
      let ((a, (b, c)), n) = from_only _ m in
      from_one Yielded (call i (rw (a, b, c) at j)) n
  facts_sound (Q _ _ _ _ _ _) (Q _ _ _ _ _ _) i j f m = elim m [ ]

  consequences_sound : (f : Fact) → Memᴰ f (consequences T fs) → Yielded f
  unfolding consequences
  consequences_sound f m =
      let (p, i, k) = from_flat_map (λ p. by_rows T p ++ flat_map (by_fact T p) fs) fs m in
      from_append Yielded (by_rows T p) (flat_map (by_fact T p) fs) (rows_sound p i)
      (λ f n. let (q, j, o) = from_flat_map (by_fact T p) fs n in facts_sound p q i j f o) k

  by_rows_lem : {p f : Fact} → In p → Memᴰ f (by_rows T p) → Memᴰ f (consequences T fs)
  unfolding consequences
  by_rows_lem i m = to_flat_map (λ p. by_rows T p ++ flat_map (by_fact T p) fs) i (Memᴰ.append_left _ m)

  by_facts : {p q f : Fact} → In p → In q → Memᴰ f (by_fact T p q) → Memᴰ f (consequences T fs)
  unfolding consequences
  by_facts {p} i j m =
      to_flat_map (λ p. by_rows T p ++ flat_map (by_fact T p) fs) i (Memᴰ.append_right (by_rows T p) (to_flat_map (by_fact T p) j m))

  -- a row of t at g₂, l₂, and what it gives
  step_in : {t g₁ l₁ g₂ l₂ g₃ l₃ : ℕ} {f : Fact} → In (P t g₁ l₁ g₂ l₂) → Steps T t g₂ l₂ g₃ l₃
      → Memᴰ f (P t g₁ l₁ g₃ l₃ ∷ G t g₂ g₃ ∷ []) → Memᴰ f (consequences T fs)
  unfolding by_step by_rows
  step_in i r m = by_rows_lem i (Memᴰ.append_left _ (to_gather _ _ r.row ((refl, (refl, refl)), r.taken) m))

  push_in : {t g₁ l₁ g₂ l₂ l₃ h : ℕ} {f : Fact} → In (P t g₁ l₁ g₂ l₂) → Pushes T t g₂ l₂ l₃ h
      → Memᴰ f (Q t g₁ l₁ h g₂ l₃ ∷ P t g₂ l₃ g₂ l₃ ∷ []) → Memᴰ f (consequences T fs)
  unfolding by_push by_rows
  push_in {t} {g₁} {l₁} {g₂} {l₂} i r m =
      by_rows_lem i (Memᴰ.append_right (by_step T t g₁ l₁ g₂ l₂) (to_gather _ _ r.row ((refl, (refl, refl)), r.taken) m))

  consequences_complete : (f : Fact) → Yielded f → Memᴰ f (consequences T fs)
  unfolding by_pop by_rows by_fact
  consequences_complete f (env_P i j ne) = by_facts i j (to_only _ (refl, ne) mem_first)
  consequences_complete f (env_Q i j ne) = by_facts i j (to_only _ (refl, ne) mem_first)
  consequences_complete f (step_P i r) = step_in i r mem_first
  consequences_complete f (step_G i r) = step_in i r mem_second
  consequences_complete f (push_Q i r) = push_in i r mem_first
  consequences_complete f (push_P i r) = push_in i r mem_second
  consequences_complete f (call i j) = by_facts i j (to_only _ (refl, (refl, refl)) mem_first)
  consequences_complete f (pop_P i r) = by_rows_lem i (to_gather _ _ r.row (refl, ((refl, (refl, refl)), r.taken)) mem_first)

  pub yields_listed : Enumerates Yielded (consequences T fs)
  yields_listed f = (consequences_complete f, consequences_sound f)

  -- ---- the decisions

  unfoldable pub yields? : (f : Fact) → Dec (Yields T (λ f. Memᴰ f fs) f)
  unfolding member? fact? consequences
  yields? f = map_dec (yields_listed f).1 (yields_listed f).0 (member? fact? f (consequences T fs))

  unfoldable pub starts? : Dec (Starts T (λ f. Memᴰ f fs))
  unfolding all? member? fact?
  starts? = all? (λ t. member? fact? (start_fact T t) fs) T.n

  unfoldable pub closed? : Dec (ClosedWithStarts T (λ f. Memᴰ f fs))
  unfolding starts? each? consequences
  closed? =
      map_dec (λ (s, c). record { starts = s; closed = λ f y. c f ((yields_listed f).0 y) })
      (λ c. (c.starts, λ f m. c.closed f ((yields_listed f).1 m)))
      (Dec.and starts? (each? (λ f. member? fact? f fs) (consequences T fs)))

-- ---- one fact more

pub further_yields : (T : Table) (f : Fact) (fs : List Fact) (g : Fact) → Memᴰ g (further T f fs) → Yields T (λ x. Memᴰ x (f ∷ fs)) g
unfolding further
further_yields T f fs g =
    let all = f ∷ fs in
    let with = flat_map (by_fact T f) fs in
    let back = flat_map (λ p. by_fact T p f) fs in
    from_append (Yields T (λ x. Memᴰ x all)) (by_rows T f) (with ++ back) (rows_sound T all f mem_first)
    (λ g.
    from_append (Yields T (λ x. Memᴰ x all)) with back
    (λ g m. let (q, j, n) = from_flat_map (by_fact T f) fs m in facts_sound T all f q mem_first (Memᴰ.tail j) g n)
    (λ g m. let (p, i, n) = from_flat_map (λ p. by_fact T p f) fs m in facts_sound T all p f (Memᴰ.tail i) mem_first g n))
