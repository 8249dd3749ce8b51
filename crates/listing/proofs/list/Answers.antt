-- After a line the list goes on further on (`goes_on`).
use Rattle.std.proofs.Common.{arith}
use Rattle.report.proofs.ListedLaws.{goes_on}
use Rattle.listing.proofs.list.Goals as goal

pub loop-fact-smaller : goal.loop-fact-smaller
loop-fact-smaller g c =
    let on = goes_on c.next_fact.ensures c.in-Some.is in
    omega (arith, on.further, on.within)
