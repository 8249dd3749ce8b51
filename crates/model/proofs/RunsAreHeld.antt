-- 004's Lemma 2, for every closed set with the start facts: in a state that a run reaches, each thread reaches its place by a P fact of the
-- set. So if the set allows no error, no run meets an erroneous state. The induction over the run also follows each thread's stack: every
-- frame on it was pushed by a call that a Q fact of the set holds up to where the callee began.
use mathlib.Core.Path.{◌≡◌, sym, subst⁻¹}
use mathlib.Core.Logic.{◌≢◌}
use mathlib.Core.List.{List, [], ◌∷◌}
use Prim.Native.Nat.{ℕ, ◌<◌}
use native.Mathlib.Decide.{ℕ_discrete}
use native.Mathlib.Omega.{arith}
use lib.ListN.{length, get_or, length-set, length-replicate, get_or-replicate}
use lib.Seq.{get_or-set_same, get_or-set_other}
use Rattle.files.specs.Table.{Table, Sound}
use Rattle.model.specs.Taken.{Steps, Pushes, Pops}
use Rattle.model.specs.Rules.{Fact, G, P, Q, env_P, step_P, step_G, push_Q, push_P, call, pop_P, ClosedWithStarts}
use Rattle.model.specs.Runs.{State, begin, Moves, step, push, pop, Run, first, next}
use Rattle.model.specs.Errors.{ErrorState, Reaches, Safe}

module _ (S : Fact → Type 0) (t : ℕ) where
  -- where the stack of a thread came from, whose running call began at g, l: each frame was pushed by a caller, who began at a place of its
  -- own and is held by a Q fact up to g, l
  pub data Chain : ℕ → ℕ → List ℕ → Type 0 where
    root : {g l : ℕ} → Chain g l []
    frame : {g₁ l₁ g l f : ℕ} {s : List ℕ} → S (Q t g₁ l₁ f g l) → Chain g₁ l₁ s → Chain g l (f ∷ s)

  -- the thread is at g, l with the stack s: it came there by a P fact from where its running call began
  pub record Held (g l : ℕ) (s : List ℕ) : Type 0 where
    pub g₁ : ℕ
    pub l₁ : ℕ
    pub fact : S (P t g₁ l₁ g l)
    pub chain : Chain g₁ l₁ s

-- thread t as it stands in a state
abbrev HeldIn : (Fact → Type 0) → State → ℕ → Type 0
HeldIn S s t = Held S t s.shared (get_or s.locals t 0) (get_or s.stacks t [])

-- every thread of a state is held
pub record AllHeld (T : Table) (S : Fact → Type 0) (s : State) : Type 0 where
  pub locals : length s.locals ≡ T.n
  pub stacks : length s.stacks ≡ T.n
  pub held : (t : ℕ) → t < T.n → HeldIn S s t

module _ {T : Table} (sound : Sound T) {S : Fact → Type 0} (c : ClosedWithStarts T S) where
  -- a move of the thread itself
  own_step : {t g l g' l' : ℕ} {s : List ℕ} → Steps T t g l g' l' → Held S t g l s → Held S t g' l' s
  own_step r h = record { g₁ = _; l₁ = _; fact = c.closed _ (step_P h.fact r); chain = h.chain }

  own_push : {t g l l' f : ℕ} {s : List ℕ} → Pushes T t g l l' f → Held S t g l s → Held S t g l' (f ∷ s)
  own_push r h =
      record { g₁ = _; l₁ = _; fact = c.closed _ (push_P h.fact r); chain = frame (c.closed _ (push_Q h.fact r)) h.chain }

  own_pop : {t g₁ l₁ g l f l' : ℕ} {s : List ℕ} → Pops T t g l f l' → S (P t g₁ l₁ g l) → Chain S t g₁ l₁ (f ∷ s) → Held S t g l' s
  own_pop r p (frame q ch) = record { g₁ = _; l₁ = _; fact = c.closed _ (pop_P (c.closed _ (call q p)) r); chain = ch }

  -- a step of another thread e
  other_step : {t e g g' l : ℕ} {s : List ℕ} → S (G e g g') → e ≢ t → Held S t g l s → Held S t g' l s
  other_step q ne h = record { g₁ = _; l₁ = _; fact = c.closed _ (env_P h.fact q ne); chain = h.chain }

  -- the thread that moved, and the others
  mover_and_others : (t : ℕ) (s : State) → length s.locals ≡ T.n → length s.stacks ≡ T.n → HeldIn S s t
      → ((e : ℕ) → e < T.n → e ≢ t → HeldIn S s e) → AllHeld T S s
  mover_and_others t s nl ns own others = record { locals = nl; stacks = ns; held = λ e h. go e h (ℕ_discrete e t) }
    where
      go : (e : ℕ) → e < T.n → Dec (e ≡ t) → HeldIn S s e
      go e h (yes p) = subst⁻¹ (HeldIn S s) p own
      go e h (no ne) = others e h ne

  moves_held : {t : ℕ} {s s' : State} → Moves T t s s' → AllHeld T S s → AllHeld T S s'
  moves_held {t} (step {ls} r) h =
      let i = (sound.steps.fits _ r.row).t in
      let il : t < length ls = omega arith in
      let own = h.held t i in
      mover_and_others t _ (simp length-set h.locals) h.stacks (simp get_or-set_same (own_step r own))
      (λ e j ne. simp get_or-set_other (other_step (c.closed _ (step_G own.fact r)) (λ p. ne (sym p)) (h.held e j)))
  moves_held {t} (push {ls} {ss} r) h =
      let i = (sound.pushes.fits _ r.row).t in
      let il : t < length ls = omega arith in
      let is : t < length ss = omega arith in
      mover_and_others t _ (simp length-set h.locals) (simp length-set h.stacks) (simp get_or-set_same (own_push r (h.held t i)))
      (λ e j ne. simp get_or-set_other (h.held e j))
  moves_held {t} (pop {ls} {ss} p r) h =
      let i = (sound.pops.fits _ r.row).t in
      let il : t < length ls = omega arith in
      let is : t < length ss = omega arith in
      let own = h.held t i in
      mover_and_others t _ (simp length-set h.locals) (simp length-set h.stacks)
      (simp get_or-set_same (own_pop r own.fact (rw p at own).chain)) (λ e j ne. simp get_or-set_other (h.held e j))

  begin_held : AllHeld T S (begin T)
  begin_held =
      record {
        locals = sound.count;
        stacks = length-replicate _ _;
        held = λ t h. simp get_or-replicate (record { g₁ = _; l₁ = _; fact = c.starts t h; chain = root });
      }

  pub run_held : {s : State} → Run T s → AllHeld T S s
  run_held first = begin_held
  run_held (next r m) = moves_held m (run_held r)

  -- Lemma 2
  pub run_reaches : {s : State} → Run T s → (t : ℕ) → t < T.n → Reaches S t s.shared (get_or s.locals t 0)
  run_reaches r t h = record { g₁ = _; l₁ = _; fact = ((run_held r).held t h).fact }

  -- what the set calls safe is safe
  pub safe_runs : Safe T S → {s : State} → Run T s → ¬ ErrorState T s
  safe_runs none {s} r (row, e) =
      none (record { row = row; shared = s.shared; locals = s.locals })
      (record { count = (run_held r).locals; erroneous = e; reached = run_reaches r })
