use Rattle.std.proofs.Common.{◌≡◌, sym, ap, subst, ◌∙◌, Some, arith}
use Rattle.std.specs.Prelude.{slice_get}
use Rattle.std.proofs.lemmas.Option.{slice_get-get_or}
use Rattle.b67_segment.specs.declared.code.Code.{Code}
use Rattle.b67_outcomes.specs.declared.found.Limit.{Limit}
use Rattle.b67_teller.specs.Books.{IsBook, HasCause, IsLimitTold}
use Rattle.b67_teller.proofs.Booking.{grows_more, limits_next, limits_stay}
use Rattle.b67_teller.proofs.telling.tell_limits.Goals as goal

pub limits-preserved : goal.limits-preserved
limits-preserved g c =
    let i = c.limits.invariant in
    let test = c.limits-test.true in
    let within = c.requires.within in
    let l : Limit = c.index.result.now in
    let there : slice_get c.args.found.now.limits.items c.limits.at ≡ Some l =
    slice_get-get_or c.args.found.now.limits.items c.limits.at l (omega (arith, test, within)) ∙ ap Some (sym c.index.ensures) in
    let grows = c.in_ok-tell_limit.ensures.grows in (
      c.tell_limit.ensures.code ∙ i.0,
      omega (arith, test),
      subst (λ (k : Code). IsBook g.T.Teller.Explained k c.tell_limit.new.book) i.0 c.in_ok-tell_limit.ensures.book,
      grows_more c.args.book.now c.limits.book c.tell_limit.new.book i.3 grows,
      λ e.
          limits_next (g.T.Walker.code c.args.teller.now) c.args.found.now c.tell_limit.new.book.told.items c.limits.at l there
          (limits_stay (g.T.Walker.code c.args.teller.now) c.args.found.now c.limits.book c.tell_limit.new.book c.limits.at grows (i.4 (grows.cut e)))
          (subst (λ (k : Code). IsLimitTold k c.args.found.now c.tell_limit.new.book.told.items l) i.0 (c.in_ok-tell_limit.ensures.told e)),
      subst (λ (k : Code). HasCause g.T.Teller.Explained k c.args.found.now c.tell_limit.new.book) i.0 c.in_ok-tell_limit.ensures.cause,
    )

pub tell_limit-requires-clause-state : goal.tell_limit-requires-clause-state
tell_limit-requires-clause-state g c =
    let test = c.limits-test.true in
    let within = c.requires.within in
    let l : Limit = c.index.result.now in
    c.requires.after c.limits.at l (slice_get-get_or c.args.found.now.limits.items c.limits.at l (omega (arith, test, within)) ∙ ap Some (sym c.index.ensures))

pub tell_limit-requires-clause-cause : goal.tell_limit-requires-clause-cause
tell_limit-requires-clause-cause g c =
    let i = c.limits.invariant in
    subst (λ (k : Code). HasCause g.T.Teller.Explained k c.args.found.now c.limits.book) (sym i.0) i.5

pub returns-clause-told : goal.returns-clause-told
returns-clause-told g c = λ e k l below. let past = c.limits-test.false in c.limits.invariant.4 e k l (omega (arith, below, past))
