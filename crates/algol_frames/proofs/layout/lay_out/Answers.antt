use Rattle.std.proofs.Common.{ℕ, List, ◌++◌, arith}
use Rattle.algol_frames.specs.declared.found.Cell.{Cell}
use Rattle.algol_frames.specs.declared.found.Content.TheVariants as content
use Rattle.algol_frames.specs.Laying.{those_holding}
use Rattle.algol_frames.proofs.Frames.{behind, first_cells, no_more, one_more}
use Rattle.algol_frames.proofs.layout.lay_out.Goals as goal

pub lay_out_those-requires-2 : goal.lay_out_those-requires-2
lay_out_those-requires-2 c = omega (arith, c.requires, c.in_ok-index.ensures.index, no_more content.Parameter c.args.cells.now)

pub lay_out_those-requires-3 : goal.lay_out_those-requires-3
lay_out_those-requires-3 c =
    omega (
      arith,
      c.requires,
      c.in_ok-index.ensures.index,
      c.in_ok-index-2.ensures.index,
      no_more content.Parameter c.args.cells.now,
      no_more content.Result c.args.cells.now,
    )

pub lay_out_those-requires-4 : goal.lay_out_those-requires-4
lay_out_those-requires-4 c =
    omega (
      arith,
      c.requires,
      c.in_ok-index.ensures.index,
      c.in_ok-index-2.ensures.index,
      c.in_ok-index-3.ensures.index,
      no_more content.Parameter c.args.cells.now,
      no_more content.Result c.args.cells.now,
      no_more content.Variable c.args.cells.now,
    )

pub lay_out_those-requires-5 : goal.lay_out_those-requires-5
lay_out_those-requires-5 c =
    omega (
      arith,
      c.requires,
      c.in_ok-index.ensures.index,
      c.in_ok-index-2.ensures.index,
      c.in_ok-index-3.ensures.index,
      c.in_ok-index-4.ensures.index,
      no_more content.Parameter c.args.cells.now,
      no_more content.Result c.args.cells.now,
      no_more content.Variable c.args.cells.now,
      no_more content.Procedure c.args.cells.now,
    )

pub lay_out_those-requires-6 : goal.lay_out_those-requires-6
lay_out_those-requires-6 c =
    omega (
      arith,
      c.requires,
      c.in_ok-index.ensures.index,
      c.in_ok-index-2.ensures.index,
      c.in_ok-index-3.ensures.index,
      c.in_ok-index-4.ensures.index,
      c.in_ok-index-5.ensures.index,
      no_more content.Parameter c.args.cells.now,
      no_more content.Result c.args.cells.now,
      no_more content.Variable c.args.cells.now,
      no_more content.Procedure c.args.cells.now,
      no_more content.Actual c.args.cells.now,
    )

pub returns : goal.returns
returns c = λ q.
    let cs : List Cell = c.args.cells.now in
    let level : ℕ = c.args.level in
    let ps : List Cell = those_holding content.Parameter cs in
    let rs : List Cell = those_holding content.Result cs in
    let vs : List Cell = those_holding content.Variable cs in
    let us : List Cell = those_holding content.Procedure cs in
    let as' : List Cell = those_holding content.Actual cs in
    let ms : List Cell = those_holding content.Made cs in
    let i1 = c.in_ok-index.ensures.index in
    let i2 = behind 2 ps rs c.in_ok-index.index c.in_ok-index-2.index i1 c.in_ok-index-2.ensures.index in
    let i3 = behind 2 (ps ++ rs) vs c.in_ok-index-2.index c.in_ok-index-3.index i2 c.in_ok-index-3.ensures.index in
    let i4 = behind 2 ((ps ++ rs) ++ vs) us c.in_ok-index-3.index c.in_ok-index-4.index i3 c.in_ok-index-4.ensures.index in
    let i5 = behind 2 (((ps ++ rs) ++ vs) ++ us) as' c.in_ok-index-4.index c.in_ok-index-5.index i4 c.in_ok-index-5.ensures.index in
    let f1 = first_cells level 2 ps q c.new-frame.result c.lay_out_those.new.frame c.new-frame.ensures.empty (c.in_ok-index.ensures.frame q) in
    let f2 = one_more level 2 ps rs c.in_ok-index.index q _ _ f1 i1 (c.in_ok-index-2.ensures.frame q) in
    let f3 = one_more level 2 (ps ++ rs) vs c.in_ok-index-2.index q _ _ f2 i2 (c.in_ok-index-3.ensures.frame q) in
    let f4 = one_more level 2 ((ps ++ rs) ++ vs) us c.in_ok-index-3.index q _ _ f3 i3 (c.in_ok-index-4.ensures.frame q) in
    let f5 = one_more level 2 (((ps ++ rs) ++ vs) ++ us) as' c.in_ok-index-4.index q _ _ f4 i4 (c.in_ok-index-5.ensures.frame q) in
    one_more level 2 ((((ps ++ rs) ++ vs) ++ us) ++ as') ms c.in_ok-index-5.index q _ _ f5 i5 (c.in_ok-lay_out_those.ensures.frame q)
