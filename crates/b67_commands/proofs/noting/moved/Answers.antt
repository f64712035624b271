use Rattle.std.proofs.Common.{rules, ◌≡◌, refl, sym, ap, ◌∙◌, Some}
use Rattle.std.specs.Prelude.{slice_get}
use Rattle.std.proofs.lemmas.Option.{slice_get-get_or}
use Rattle.b67_commands.specs.declared.command.Command.{Command}
use Rattle.b67_commands.specs.declared.command.Command.TheVariants.{Store}
use Rattle.b67_commands.specs.Noting.{looked_for}
use Rattle.b67_commands.proofs.Leading.{leads, stands_still, still_of}
use Rattle.b67_commands.proofs.Notes.{found_some}
use Rattle.b67_commands.proofs.noting.moved.Goals as goal

pub returns-in-Some : goal.returns-in-Some
returns-in-Some c =
    let here : slice_get c.args.commands.now c.args.place ≡ Some (Store c.in-Store.name) =
    slice_get-get_or c.args.commands.now c.args.place c.index-commands-place.result c.requires ∙ ap (λ (x : Command). Some x) (sym c.index-commands-place.is ∙ c.in-Store.is) in
    let looked : looked_for c.args.commands.now c.in-Store.name ≡ Some c.in-Some.first = search rules in
    leads c.args.commands.now c.args.notes.now c.args.all c.args.place c.args.k c.next_noted.result c.in-Store.name c.in-Some.first here looked c.next_noted.ensures

pub returns-in-None : goal.returns-in-None
returns-in-None c =
    let here : slice_get c.args.commands.now c.args.place ≡ Some (Store c.in-Store.name) =
    slice_get-get_or c.args.commands.now c.args.place c.index-commands-place.result c.requires ∙ ap (λ (x : Command). Some x) (sym c.index-commands-place.is ∙ c.in-Store.is) in
    absurd (found_some c.args.commands.now c.args.place c.in-Store.name here (search rules))

pub returns-in-Show : goal.returns-in-Show
returns-in-Show c =
    stands_still c.args.commands.now c.args.notes.now c.args.all c.args.place c.args.k c.args.k c.index-commands-place.result
    (slice_get-get_or c.args.commands.now c.args.place c.index-commands-place.result c.requires ∙ ap (λ (x : Command). Some x) (sym c.index-commands-place.is))
    (λ stored. still_of c.index-commands-place.result stored c.args.k c.in-Show.is) refl

pub returns-in-Show-2 : goal.returns-in-Show-2
returns-in-Show-2 c =
    stands_still c.args.commands.now c.args.notes.now c.args.all c.args.place c.args.k c.args.k c.index-commands-place.result
    (slice_get-get_or c.args.commands.now c.args.place c.index-commands-place.result c.requires ∙ ap (λ (x : Command). Some x) (sym c.index-commands-place.is))
    (λ stored. still_of c.index-commands-place.result stored c.args.k c.in-Show.is) refl

pub returns-in-Show-3 : goal.returns-in-Show-3
returns-in-Show-3 c =
    stands_still c.args.commands.now c.args.notes.now c.args.all c.args.place c.args.k c.args.k c.index-commands-place.result
    (slice_get-get_or c.args.commands.now c.args.place c.index-commands-place.result c.requires ∙ ap (λ (x : Command). Some x) (sym c.index-commands-place.is))
    (λ stored. still_of c.index-commands-place.result stored c.args.k c.in-Show.is) refl
