use Rattle.std.proofs.Common.{◌≡◌, ◌<◌, ◌≤◌, ⊎_elim, inl, inr, subst, length, arith}
use Rattle.b67_store.specs.Store.{with_cut, stack_limit}
use Rattle.b67_table.specs.Image.{Image}
use Rattle.b67_reach.specs.Images.{with_own}
use Rattle.b67_action.specs.Reaching.{own_of}
use Rattle.b67_action.specs.Running.{HasPlace, IsOpenAt, HasCome, HasRun}
use Rattle.b67_action.proofs.InStore.{linked, in_again}
use Rattle.b67_action.proofs.Open.{open_left, lent_open, given_open}
use Rattle.b67_action.proofs.Runs.{has_run}
use Rattle.b67_action.proofs.reaching.run_lent.Goals as goal

pub go_on_room-ran-requires-clause-lent : goal.go_on_room-ran-requires-clause-lent
go_on_room-ran-requires-clause-lent g c = (
  c.requires.stands.1,
  c.requires.stands.2,
  lent_open c.args.code.now c.requires.stands.1 c.requires.stands.2 (g.C.Core.stacks c.args.core.now) (g.C.Core.rows c.args.core.now) c.args.regs.now c.requires.open c.requires.stands.3
      c.room_for-least.result c.room-room.result.now c.room-room.ensures.words,
)

pub go_on_room-ran-requires-clause-room : goal.go_on_room-ran-requires-clause-room
go_on_room-ran-requires-clause-room g c = (omega (arith, c.requires.open.long, c.room-room.ensures.words.within), c.room-room.ensures.words.size)

pub returns-clause-come : goal.returns-clause-come
returns-clause-come g c = λ first img p h come.
    let code = c.args.code.now in
    let st = g.C.Core.stacks c.args.core.now in
    let rows = g.C.Core.rows c.args.core.now in
    let r = c.args.regs.now in
    let room = c.room-room.result.now in
    let left = c.go_on_room-ran.new.room in
    let q = c.go_on_room-ran.new.regs in
    let whole = c.go_on_room-ran.auto.room in
    let lent = g.C.Core.lent c.args.core.now r.stack room left in
    subst (λ (x : Image). HasCome code p first c.go_on_room-ran.result c.go_on_room-ran.new.letters x)
    (given_open code img p st rows r c.requires.open h q left (g.C.Core.stacks lent) (g.C.Core.rows lent) c.go_on_room-ran.ensures.keeps.0 (c.room-room.ensures.stacks left whole)
    (c.room-room.ensures.rows left whole))
    (c.go_on_room-ran.ensures.ran first img p (lent_open code img p st rows r c.requires.open h c.room_for-least.result room c.room-room.ensures.words) come).come

pub returns-clause-ran : goal.returns-clause-ran
returns-clause-ran g c = λ no first img p h come.
    let code = c.args.code.now in
    let st = g.C.Core.stacks c.args.core.now in
    let rows = g.C.Core.rows c.args.core.now in
    let r = c.args.regs.now in
    let room = c.room-room.result.now in
    let left = c.go_on_room-ran.new.room in
    let q = c.go_on_room-ran.new.regs in
    let whole = c.go_on_room-ran.auto.room in
    let lent = g.C.Core.lent c.args.core.now r.stack room left in
    let ran = c.go_on_room-ran.result in
    let letters = c.go_on_room-ran.new.letters in
    let run = c.go_on_room-ran.ensures.ran first img p (lent_open code img p st rows r c.requires.open h c.room_for-least.result room c.room-room.ensures.words) come in
    let place : IsOpenAt ran.entries letters → HasPlace q left =
    λ o. ⊎_elim
    (λ (f : q.s < length room). inl (omega (arith, f, whole)))
    (λ (f : stack_limit ≤ length room). inr (omega (arith, f, whole, c.room-room.ensures.words.size)))
    (c.is_short-short.ensures.no no o) in
    subst (λ (x : Image). HasRun code p c.args.most first ran letters x)
    (given_open code img p st rows r c.requires.open h q left (g.C.Core.stacks lent) (g.C.Core.rows lent) c.go_on_room-ran.ensures.keeps.0 (c.room-room.ensures.stacks left whole)
    (c.room-room.ensures.rows left whole))
    (has_run code p first c.args.most ran letters _ run.come (λ less o. run.stops (place o) less o))

pub returns-clause-longer : goal.returns-clause-longer
returns-clause-longer g c = λ yes.
    let least = c.room_for-least.result in
    let short = c.is_short-short.ensures.longer yes in
    ⊎_elim
    (λ (f : c.args.regs.now.s < least). omega (arith, f, short.0, c.room-room.ensures.words.long))
    (λ (f : least ≡ stack_limit). absurd (omega (arith, f, short.1, c.room-room.ensures.words.long)))
    c.room_for-least.ensures.place

pub returns-clause-open : goal.returns-clause-open
returns-clause-open g c =
    let code = c.args.code.now in
    let first = c.requires.stands.0 in
    let img = c.requires.stands.1 in
    let p = c.requires.stands.2 in
    let h = c.requires.stands.3 in
    let st = g.C.Core.stacks c.args.core.now in
    let rows = g.C.Core.rows c.args.core.now in
    let r = c.args.regs.now in
    let room = c.room-room.result.now in
    let left = c.go_on_room-ran.new.room in
    let q = c.go_on_room-ran.new.regs in
    let whole = c.go_on_room-ran.auto.room in
    let lent = g.C.Core.lent c.args.core.now r.stack room left in
    let new = own_of (g.C.Core.stacks lent) (g.C.Core.rows lent) q in
    let given = given_open code img p st rows r c.requires.open h q left (g.C.Core.stacks lent) (g.C.Core.rows lent) c.go_on_room-ran.ensures.keeps.0 (c.room-room.ensures.stacks left whole)
    (c.room-room.ensures.rows left whole) in
    let come = subst (λ (x : Image). HasCome code p first c.go_on_room-ran.result c.go_on_room-ran.new.letters x) given
    (c.go_on_room-ran.ensures.ran first img p (lent_open code img p st rows r c.requires.open h c.room_for-least.result room c.room-room.ensures.words) c.requires.stands.4).come in
    let l = linked code (with_own new p img) p new.stacks new.rows q (in_again code img p (with_cut st r.stack r.s) rows r h new come.valid) in
    open_left st rows r c.requires.open q left (g.C.Core.stacks lent) c.go_on_room-ran.ensures.keeps.0 (c.room-room.ensures.stacks left whole)
    (omega (arith, c.go_on_room-ran.ensures.held, whole)) l.room l.level
