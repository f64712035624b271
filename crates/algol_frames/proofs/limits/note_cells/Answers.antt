use Rattle.std.proofs.Common.{◌≡◌, ℕ, ◌+◌, ◌<◌, List, ◌∷◌, length, drop, get_or, drop-cons, Option, sym, ap, ◌∙◌, arith, suc, false}
use Rattle.std.proofs.lemmas.List.{drop_all}
use Rattle.std.specs.declared.alloc.Global.{Global}
use Rattle.std.specs.declared.vec.Vec.{Vec}
use Rattle.std.specs.BTreeMap.{BTreeMap}
use Rattle.algol_tree.specs.declared.TheConstants.{MOST_BLOCK_CELLS}
use Rattle.algol_tree.specs.declared.refusal.Code.TheVariants as codes
use Rattle.algol_tree.specs.declared.refusal.Fault.{Fault}
use Rattle.algol_tree.specs.Accepted.{broken, noted_all}
use Rattle.algol_tree.specs.Names.{place_beyond}
use Rattle.algol_frames.specs.declared.found.Cell.{Cell}
use Rattle.algol_frames.specs.declared.found.Block.{Block}
use Rattle.algol_frames.specs.Framing.{beyond_from, framed_cells_in, places_of}
use Rattle.algol_frames.proofs.Noting.{noted_broken}
use Rattle.algol_frames.proofs.limits.note_cells.Goals as goal

abbrev no_block : Block
no_block = record { spot = record { line = 0; column = 0 }; level = 0; is_procedure = false }

beyond_item : (table : BTreeMap ℕ (Vec Cell Global)) (bs : List Block) (i : ℕ) (now new all : Option Fault) → i < length bs →
    new ≡ noted_all now (broken codes.TooManyCells (place_beyond MOST_BLOCK_CELLS (places_of (framed_cells_in table i)))) →
    noted_all now (broken codes.TooManyCells (beyond_from table i (drop i bs))) ≡ all →
    noted_all new (broken codes.TooManyCells (beyond_from table (i + 1) (drop (i + 1) bs))) ≡ all
beyond_item table bs i now new all h e inv =
    let next : suc i ≡ i + 1 = omega arith in
    let at : drop i bs ≡ get_or bs i no_block ∷ drop (i + 1) bs =
    drop-cons bs i no_block h ∙ ap (λ n. get_or bs i no_block ∷ drop n bs) next in
    ap (λ z. noted_all z (broken codes.TooManyCells (beyond_from table (i + 1) (drop (i + 1) bs)))) e
    ∙ sym
    (noted_broken now codes.TooManyCells (place_beyond MOST_BLOCK_CELLS (places_of (framed_cells_in table i))) (beyond_from table (i + 1) (drop (i + 1) bs)))
    ∙ ap (λ z. noted_all now (broken codes.TooManyCells (beyond_from table i z))) (sym at) ∙ inv

pub each-preserved : goal.each-preserved
each-preserved c =
    beyond_item c.args.table.now c.args.blocks.now c.each.at c.each.faults.first c.note_beyond.new.faults.first _ c.each-test.true
    (c.note_beyond.ensures
    ∙ ap (λ z. noted_all c.each.faults.first (broken codes.TooManyCells (place_beyond MOST_BLOCK_CELLS (places_of z)))) c.cells_of.ensures)
    c.each.invariant

pub returns : goal.returns
returns c =
    sym
    (ap (λ z. noted_all c.each.faults.first (broken codes.TooManyCells (beyond_from c.args.table.now c.each.at z)))
    (drop_all c.each.at c.args.blocks.now c.each-test.false))
    ∙ c.each.invariant
