use Rattle.std.proofs.Common.{◌≡◌, List, [], ◌∷◌, sym, ap, subst, ◌∙◌, Some}
use Rattle.b67_word.specs.Word.{Word}
use Rattle.b67_segment.specs.declared.code.Code.{Code}
use Rattle.b67_store.specs.Store.{Stacks, opened_at}
use Rattle.b67_events.specs.Events.{Events}
use Rattle.b67_table.specs.declared.ProcessState.TheVariants.{Able, Ended}
use Rattle.b67_table.specs.Image.{Image}
use Rattle.b67_table.specs.Beginning.{system_stack, base_frame, first_image}
use Rattle.b67_table.specs.Valid.{IsValid}
use Rattle.b67_table.proofs.FirstValid.{first_is_valid}
use Rattle.b67_load.proofs.Renewed.{first_kept, second_free, ended_image, ended_is_valid, same_built, first_is_built}
use Rattle.b67_load.proofs.again.load_again.Goals as goal

pub open_with-requires-clause-free : goal.open_with-requires-clause-free
open_with-requires-clause-free g c =
    second_free (g.C.Core.stacks c.clear_from.new.self) (c.clear_from.ensures.stacks ∙ first_kept (g.C.Core.stacks c.args.core.now) c.requires.valid.system)

pub returns-in-Ok-clause-image : goal.returns-in-Ok-clause-image
returns-in-Ok-clause-image g c =
    let parts = c.leave_first.new.parts in
    let kernel = c.clear.new.self in
    let left : g.C.Core.stacks c.clear_from.new.self ≡ Some system_stack ∷ [] = c.clear_from.ensures.stacks ∙ first_kept (g.C.Core.stacks c.args.core.now) c.requires.valid.system in
    let stacks : g.C.Core.stacks c.open_with.new.core ≡ Some system_stack ∷ Some base_frame ∷ [] =
    c.in-Ok.ensures.opened ∙ ap (λ (ws : List Word). opened_at (g.C.Core.stacks c.clear_from.new.self) 1 ws) c.base_words.ensures
    ∙ ap (λ (z : Stacks). opened_at z 1 base_frame) left in
    same_built (g.C.Core.stacks c.open_with.new.core) (Some system_stack ∷ Some base_frame ∷ []) (g.C.Core.rows c.open_with.new.core) kernel.events kernel.lists parts.regs.items
    parts.states.items (Able ∷ []) parts.numbers.items parts.output.items parts.started
    stacks (c.in-Ok.ensures.rows ∙ c.clear_from.ensures.rows) (ap (λ (k : Events). k.events) c.clear.ensures) (ap (λ (k : Events). k.lists) c.clear.ensures)
    c.leave_first.ensures.regs c.leave_first.ensures.states c.leave_first.ensures.numbers c.leave_first.ensures.output c.leave_first.ensures.started
    ∙ first_is_built

pub returns-in-Ok-clause-valid : goal.returns-in-Ok-clause-valid
returns-in-Ok-clause-valid g c =
    let valid : IsValid c.leave_first.new.parts.code first_image =
    subst (λ (code : Code). IsValid code first_image) (sym c.leave_first.ensures.code) (first_is_valid c.args.parts.now.code c.requires.valid.segments) in
    subst (λ (img : Image). IsValid c.leave_first.new.parts.code img) (sym (returns-in-Ok-clause-image g c)) valid

pub returns-in-Err-clause-valid : goal.returns-in-Err-clause-valid
returns-in-Err-clause-valid g c =
    let parts = c.leave_first-in-Err.new.parts in
    let kernel = c.clear.new.self in
    let left : g.C.Core.stacks c.clear_from.new.self ≡ Some system_stack ∷ [] = c.clear_from.ensures.stacks ∙ first_kept (g.C.Core.stacks c.args.core.now) c.requires.valid.system in
    let same = same_built (g.C.Core.stacks c.open_with.new.core) (Some system_stack ∷ []) (g.C.Core.rows c.open_with.new.core) kernel.events kernel.lists parts.regs.items
    parts.states.items (Ended ∷ []) parts.numbers.items parts.output.items parts.started
    (c.in-Err.ensures.unchanged ∙ left) (c.in-Err.ensures.rows ∙ c.clear_from.ensures.rows) (ap (λ (k : Events). k.events) c.clear.ensures) (ap (λ (k : Events). k.lists) c.clear.ensures)
    c.leave_first-in-Err.ensures.regs c.leave_first-in-Err.ensures.states c.leave_first-in-Err.ensures.numbers c.leave_first-in-Err.ensures.output c.leave_first-in-Err.ensures.started in
    let valid : IsValid parts.code ended_image =
    subst (λ (code : Code). IsValid code ended_image) (sym c.leave_first-in-Err.ensures.code)
    (ended_is_valid c.args.parts.now.code (first_is_valid c.args.parts.now.code c.requires.valid.segments)) in
    subst (λ (img : Image). IsValid parts.code img) (sym same) valid
