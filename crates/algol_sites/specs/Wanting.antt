-- What a name has to be where it stands, as the tests that the rules have for it.
use Rattle.std.specs.List.{flat_map}
use Rattle.b67_limits.specs.declared.TheConstants.{MOST_EVENTS}
use Rattle.std.specs.Prelude.{◌==◌, ◌&&◌, ◌||◌, nat_lt, length, not, Bool, true, false, ℕ, List, is_some}
use Rattle.algol_tree.specs.declared.refusal.Code.{Code}
use Rattle.algol_tree.specs.declared.refusal.Code.TheVariants as codes
use Rattle.algol_tree.specs.declared.refusal.Fault.{Fault}
use Rattle.algol_tree.specs.declared.tree.Kind.{Kind}
use Rattle.algol_tree.specs.declared.tree.Named.{Named}
use Rattle.algol_tree.specs.declared.tree.EventName.{EventName}
use Rattle.algol_tree.specs.Classes as class
use Rattle.algol_tree.specs.Classes.{Class, same_kind, is_simple, is_array, is_event, is_task, is_label, is_file, is_procedure, is_unspecified}
use Rattle.algol_tree.specs.Types.{read_type}
use Rattle.algol_tree.specs.Surroundings.{Surroundings, class_of}
use Rattle.algol_sites.specs.declared.wanted.Wanted.{Wanted}
use Rattle.algol_sites.specs.declared.wanted.Wanted.TheVariants as wanted
use Rattle.algol_sites.specs.Noting.{broken_if}

abbrev is_read : Class → Bool
is_read c = is_some (read_type c)

abbrev is_such_array : Kind → ℕ → Class → Bool
is_such_array k subscripts (class.array m count) = same_kind k m && (count == subscripts)
is_such_array k subscripts _ = false

abbrev pub is_met : Wanted → Class → Bool
is_met wanted.Read c = is_read c
is_met wanted.Simple c = is_simple c
is_met wanted.Array c = is_array c
is_met (wanted.SuchArray k subscripts) c = is_such_array k subscripts c
is_met wanted.Event c = is_event c
is_met wanted.Task c = is_task c
is_met wanted.Label c = is_label c
is_met wanted.File c = is_file c
is_met wanted.Procedure c = is_procedure c
is_met wanted.Function c = is_procedure c && is_read c
is_met wanted.Untyped c = is_procedure c && not (is_read c)

-- the name is known and is not what is wanted
abbrev pub unfit : Wanted → Code → Named → Surroundings → List Fault
unfit w code n a = broken_if code (not (is_met w (class_of a n)) && not (is_unspecified (class_of a n))) n.spot

abbrev pub event_wanted : Bool → Wanted
event_wanted true = wanted.Task
event_wanted false = wanted.Event

abbrev pub unfit_event : EventName → Surroundings → List Fault
unfit_event e a = unfit (event_wanted e.task) codes.WrongType e.name a

abbrev pub unfit_events : List EventName → Surroundings → List Fault
unfit_events es a = flat_map (λ (e : EventName). unfit_event e a) es

-- there is none, or there are more than something can be done with at once
abbrev pub are_miscounted : List EventName → Bool
are_miscounted es = (length es == 0) || nat_lt MOST_EVENTS (length es)
