-- What becomes of a list whose vector is lent.
use Rattle.std.specs.Prelude.{List}
use Rattle.std.specs.Borrow.{Lends, MutBor, Fml}
use denote.RattleType.{RattleType}
use Rattle.std.specs.declared.vec.Vec.{Vec}
use Rattle.std.specs.declared.alloc.Global.{Global}
use Rattle.std.specs.contracts.vec.Vec as vec
use Rattle.std.specs.contracts.alloc.Global as heap
use Rattle.std.specs.contracts.impls.GlobalAllocator.TheImpl.{ghosts}
use Rattle.b67_list.specs.contracts.list.List as list

-- the list ends as the items of the vector as it is given back
abbrev pub LendsItems : (T : RattleType) → MutBor (List T.Denot) → MutBor (Vec T.Denot Global) → Fml
LendsItems T l v = Lends (list.the_row T) (vec.the_row T heap.the_row ghosts) l v (λ w. w.items)
