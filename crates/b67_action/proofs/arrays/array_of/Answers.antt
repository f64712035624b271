use Rattle.std.proofs.Common.{◌≡◌, sym, ◌∙◌, true, Some}
use Rattle.std.proofs.lemmas.Option.{get_or_from_slice_get}
use Rattle.b67_control.specs.declared.Descriptor.{Descriptor}
use Rattle.b67_control.specs.Control.{as_descriptor}
use Rattle.b67_table.specs.Arrays.{is_array_descriptor}
use Rattle.b67_action.specs.OnRoom.{IsArrayOf}
use Rattle.b67_action.proofs.ArraysOnRoom.{if_some_then, array_itself, array_named}
use Rattle.b67_action.proofs.arrays.array_of.Goals as goal

pub returns-in_ok-at-in-Some-clause-found : goal.returns-in_ok-at-in-Some-clause-found
returns-in_ok-at-in-Some-clause-found c =
    let r = c.args.regs.now in
    let room = c.args.room.now in
    let w = c.index-room-at.result in
    let at = c.in_ok-at-in-Some.at in
    let h = c.in_ok-at-in-Some.ensures.holds in
    if_some_then (λ (d : Descriptor). (as_descriptor w ≡ Some d) × (is_array_descriptor c.args.mother d ≡ true)) (λ (d : Descriptor). IsArrayOf r room c.args.mother c.args.word d)
    c.array_in.result c.array_in.ensures.found (λ d k.
    array_named r room c.requires.room c.args.mother c.args.word w d c.in-Some.reference at (sym c.unpack.ensures.value ∙ c.in-Some.is) h
    (c.index-room-at.is ∙ get_or_from_slice_get room at h.word w h.stands) k.0 k.1)

pub returns-in-None-clause-found : goal.returns-in-None-clause-found
returns-in-None-clause-found c =
    let r = c.args.regs.now in
    let room = c.args.room.now in
    if_some_then (λ (d : Descriptor). (as_descriptor c.args.word ≡ Some d) × (is_array_descriptor c.args.mother d ≡ true)) (λ (d : Descriptor). IsArrayOf r room c.args.mother c.args.word d)
    c.array_in-in-None.result c.array_in-in-None.ensures.found (λ d k. array_itself r room c.requires.room c.args.mother c.args.word d k.0 k.1)
