-- `claim_check_call::check::check_facts` meets its contract: the claim is marked, so what is found on the memory is found of the claimed facts; the
-- memory is left so, or cleared.
use Prim.Native.Nat.{◌≤◌}
use native.Mathlib.Omega.{arith}
use lib.ListN.{length}
use Rattle.files.proofs.WLaws.{W_max}
use Rattle.claim_check_call.proofs.ClaimOutcomes.{answer_accepted, answer_fault}
use Rattle.claim_check_call.proofs.check.check_facts.Goals as goal

pub mark_in-requires : goal.mark_in-requires
mark_in-requires c =
    let (T, ps, l, room) = c.requires in
    (record { positions = ps; next = l.next; reads = l.reads }, omega (arith, l.wide, W_max T l.stored.sound), room)

pub returns-in-Ok : goal.returns-in-Ok
returns-in-Ok c =
    let enough : c.args.w ≤ length c.mark_in.new.mem = omega (arith, c.requires.3, c.mark_in.auto.mem) in
    λ T ps l. answer_accepted l enough c.mark_in.ensures (c.find.ensures.found T l.stored) c.find.ensures.kept c.in-Ok.is

pub returns-in-Err : goal.returns-in-Err
returns-in-Err c =
    let enough : c.args.w ≤ length c.mark_in.new.mem = omega (arith, c.requires.3, c.mark_in.auto.mem) in
    λ T ps l. answer_fault l enough c.mark_in.ensures (c.find.ensures.found T l.stored) c.find.ensures.kept c.clear_first.ensures _ c.in-Err.is
