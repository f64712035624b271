use Rattle.std.proofs.Common.{◌≡◌, ◌-◌, refl, ◌∙◌, sym, replicate, pos, arith, rules}
use Rattle.std.specs.Vec.{vec_len}
use Rattle.b67_word.specs.Word.{operand}
use Rattle.b67_store.specs.Store.{stack_limit}
use Rattle.b67_store.proofs.Rooms.{all_left_from, filled_between, lent_from}
use Rattle.b67_store.proofs.words.Words.room.Goals as goal

pub returns : goal.returns
returns c =
    let old = c.self.inside.room in
    let filled = c.fill.new.room in
    let new = c.move_words.new.room in
    let all : vec_len filled ≡ stack_limit = omega (arith, c.fill.ensures.size, c.self.invariant.2) in
    let whole : vec_len new ≡ stack_limit = c.move_words.ensures.size ∙ all in
    let room = c.as_mut_slice.ensures.value in
    let seen = filled_between old.items filled.items (replicate (stack_limit - vec_len old) (operand (pos 0))) c.args.self.now c.self.inside.base c.self.inside.used c.self.view_is (search rules) c.fill.ensures.words in (
      (refl, λ w. all_left_from c.as_mut_slice.result.now new.items w new.len c.args.base whole (sym new.ok.0) room),
      record {
        size = c.as_mut_slice.ensures.len ∙ whole;
        words = lent_from filled.items new.items c.as_mut_slice.result.now c.args.self.now c.self.inside.base c.self.inside.used c.args.base seen c.self.invariant.0 (omega (arith, all, filled.ok, c.self.invariant)) c.move_words.ensures.words room;
        writes_back = tt;
      },
    )
