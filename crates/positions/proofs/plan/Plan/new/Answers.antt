-- The sizes are as the plan says, and small, since each of the four is.
use mathlib.Core.Path.{refl}
use native.Mathlib.Omega.{arith}
use Rattle.positions.specs.Plans.{Planned, sized}
use Rattle.positions.proofs.Places.{Small, small}
use Rattle.positions.proofs.plan.Plan.new.Goals as goal

sizes : (c : goal.Start) → Small c.args.n c.args.g c.args.l c.args.f
sizes c =
    let h = c.requires in small c.args.n c.args.g c.args.l c.args.f h.1 h.3 h.5 h.6

pub overflow_mul-w-3 : goal.overflow_mul-w-3
overflow_mul-w-3 c = omega (arith, sizes c)

pub overflow_add-w : goal.overflow_add-w
overflow_add-w c = omega (arith, sizes c)

planned : (c : goal.Start) → Planned (sized c.args.n c.args.g c.args.l c.args.f)
planned c =
    let h = c.requires in
    let z = sizes c in
    record {
      k = refl;
      p = refl;
      q = refl;
      w = refl;
      n_pos = h.0;
      g_pos = h.2;
      l_pos = h.4;
      n_max = h.1;
      g_max = h.3;
      l_max = h.5;
      f_max = h.6;
      k_max = z.k;
      w_max = omega arith;
    }

pub invariant_of-result : goal.invariant_of-result
invariant_of-result c = planned c

pub returns : goal.returns
returns c = (refl, planned c)
