use Rattle.std.proofs.Common.{refl}
use Rattle.algol_expr.proofs.Public.{finds_reads, finds_only, finds_longest, finds_whole, found_long, fails_long, fails_refused, fails_whole}
use Rattle.algol_expr.proofs.whole.read_whole.Goals as goal

pub returns-in-Some-clause-refused : goal.returns-in-Some-clause-refused
returns-in-Some-clause-refused c = (found_long _ _ _ _ _ _ c.in-Ok.ensures.found refl c.in-Some.ensures.some).0

pub returns-in-Some-clause-fails : goal.returns-in-Some-clause-fails
returns-in-Some-clause-fails c = (found_long _ _ _ _ _ _ c.in-Ok.ensures.found refl c.in-Some.ensures.some).1

pub returns-in-None-clause-reads : goal.returns-in-None-clause-reads
returns-in-None-clause-reads c = finds_reads _ _ _ _ c.in-Ok.ensures.found c.in-None.ensures.none

pub returns-in-None-clause-only : goal.returns-in-None-clause-only
returns-in-None-clause-only c = finds_only _ _ _ _ c.in-Ok.ensures.found

pub returns-in-None-clause-longest : goal.returns-in-None-clause-longest
returns-in-None-clause-longest c = finds_longest _ _ _ _ c.in-Ok.ensures.found

pub returns-in-None-clause-found : goal.returns-in-None-clause-found
returns-in-None-clause-found c = finds_whole _ _ _ _ c.in-Ok.ensures.found c.in-None.ensures.none

pub returns-in-Some-overlong-clause-refused : goal.returns-in-Some-overlong-clause-refused
returns-in-Some-overlong-clause-refused c = (fails_long _ _ _ _ _ _ _ c.in-At.is c.in-Err.ensures.refused c.in-Some-overlong.ensures.some).0

pub returns-in-Some-overlong-clause-fails : goal.returns-in-Some-overlong-clause-fails
returns-in-Some-overlong-clause-fails c = (fails_long _ _ _ _ _ _ _ c.in-At.is c.in-Err.ensures.refused c.in-Some-overlong.ensures.some).1

pub returns-in-None-overlong-clause-refused : goal.returns-in-None-overlong-clause-refused
returns-in-None-overlong-clause-refused c = fails_refused _ _ _ _ c.in-Err.ensures.refused c.in-None-overlong.ensures.none

pub returns-in-None-overlong-clause-fails : goal.returns-in-None-overlong-clause-fails
returns-in-None-overlong-clause-fails c = fails_whole _ _ _ _ c.in-Err.ensures.refused c.in-None-overlong.ensures.none
