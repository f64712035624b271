-- `List` as a type that may hold the type that holds it: where it keeps the values, and that it keeps nothing else.
use mathlib.Core.Path.{◌≡◌, refl, sym}
use mathlib.Core.List as sequence
use mathlib.Core.Former.{Former, this, list, via, children}
use base.Stored.{code_map}
use denote.RattleType.{RattleType}
use denote.HoleLaws.{Alike}
use denote.HolePlaces.{Recodes, struct_places, laid}
use denote.Hole.Carrier.{listed, list-listed}
use denote.Hole.Fix.{over}
use denote.Param.Weighed.{Weighed, w_list}
use denote.Model.Placed.{view_places}
use Rattle.std.specs.formers.vec.Vec as vec
use Rattle.std.specs.declared.alloc.Global.{Global}
use Rattle.std.specs.contracts.alloc.Global as heap
use Rattle.std.specs.contracts.impls.GlobalAllocator.TheImpl.{ghosts}
use Rattle.b67_list.specs.declared.list.List.TheInside.{Inside}
use Rattle.b67_list.specs.declared.list.List.TheView.{view, invariant}
use Rattle.b67_list.specs.contracts.list.List as whole
use Rattle.b67_list.specs.contracts.list.List.TheInside as inside

abbrev pub the_former : Former {0} → Former {0}
the_former g = list g

abbrev pub the_weighed : {g : Former {0}} → Weighed g → Weighed (the_former g)
the_weighed w = w_list w

pub the_empty : sequence.List ⊥
the_empty = sequence.[]

abbrev pub the_items : (X : Type 0) → sequence.List X → sequence.List X
the_items X values = values

pub the_items_listed : (X : Type 0) (values : sequence.List X) → listed _ (children (the_former this) X values) ≡ the_items X values
the_items_listed X values = list-listed X values

-- the one field, a vector
abbrev fields : Former {0}
fields = via (vec.the_former this Global) Inside (λ X held. held.items) (λ X items. record { items = items }) (λ X held. refl) (λ X items. refl)

module _ (from to : RattleType) (along : from.Denot → to.Denot) where
  pub the_places : Alike from to along → Alike (whole.the_row from) (whole.the_row to) ((the_former this).map from.Denot to.Denot along)
  the_places alike =
      view_places fields (list this) view (λ X Y k u. refl) (λ X u. refl) from.Denot to.Denot along (whole.the_row from).coded (whole.the_row to).coded
      (invariant from.Denot) (invariant to.Denot) (λ u p q. refl) (λ u p q. refl) (λ u e. tt) (λ u e. tt)
      (over (inside.the_row from)) (over (inside.the_row to))
      (struct_places (inside.the_type from) (inside.the_type to) (vec.mapped along, tt) _ (λ d. refl) refl
      (laid _ _ _ (vec.the_places heap.the_row ghosts from to along alike), tt))

  pub the_codes_placed : Recodes from to along → Recodes (whole.the_row from) (whole.the_row to) ((the_former this).map from.Denot to.Denot along)
  the_codes_placed same d = sym (code_map from.coded.code to.coded.code along (λ x. sym (same x)) d)
