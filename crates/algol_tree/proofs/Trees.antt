-- Facts on trees that several crates cite.
use Rattle.std.proofs.Common.{Bool, List, None, Some, [], ap, arith, false, if◌then◌else◌, is_some, length, refl, slice_get, subst, suc, true, zero, ℕ, ◌*◌, ◌++◌, ◌+◌, ◌-◌, ◌<◌, ◌∷◌, ◌≡◌, ◌≤◌}
use Rattle.std.specs.List.{AllByRecursion}
use Rattle.algol_tree.specs.Blocks.{Block, block_numbered}
use Rattle.algol_tree.specs.Names.{name_is_one_of}
use Rattle.algol_tree.specs.Plain as tree
use Rattle.algol_tree.specs.Plain.{PDecls}
use Rattle.algol_tree.specs.Scopes.{Scopes, Use, declared_in, left_use, use_of}
use Rattle.algol_tree.specs.Sorts as sorts
use Rattle.algol_tree.specs.Sorts.{Declared, Sort, is_variable, look_up, procedure_in, same_name}
use Rattle.algol_tree.specs.Spelling.{value_after}
use Rattle.algol_tree.specs.Surroundings.{Surroundings, knowing, knowing_all}
use Rattle.algol_tree.specs.declared.tree.Named.{Named}

-- the place after declarations has as many blocks around it
pub same_depth : (blocks : List Block) (ds : PDecls) (a : Surroundings) → (knowing_all blocks ds a).depth ≡ a.depth
same_depth blocks tree.no_decls a = refl
same_depth blocks (tree.decls d ds) a = same_depth blocks ds (knowing blocks d ds a)

-- what a name is used as
pub use_is : (sc : Scopes) (n : Named) (u : Use) → declared_in sc.uses n.spot ≡ Some u → use_of sc n ≡ u
use_is sc n u h = rw h refl

-- one of these is one of more
pub among_behind : (more names : List (List ℕ)) (name : List ℕ) → name_is_one_of names name ≡ true → name_is_one_of (more ++ names) name ≡ true
among_behind [] names name h = h
among_behind (m ∷ more) names name h = by (same_name m name) (among_behind more names name h)
  where
    by : (b : Bool) → name_is_one_of (more ++ names) name ≡ true → (if b then true else name_is_one_of (more ++ names) name) ≡ true
    by true later = refl
    by false later = later

pub found_known : (P : Declared → Type 0) (ds : List Declared) (name : List ℕ) (d : Declared) → AllByRecursion P ds → look_up ds name ≡ Some d → P d
found_known P [] name d h e = absurd (let clash : None ≡ Some d = e in cc)
found_known P (x ∷ ds) name d h e = decide (same_name x.name name) e (found_known P ds name d h.1)
  where
    decide : (b : Bool) → (if b then Some x else look_up ds name) ≡ Some d → (look_up ds name ≡ Some d → P d) → P d
    decide true q on = (let same : x ≡ d = cc in subst P same h.0)
    decide false q on = on q

pub got_numbered : (bs : List Block) (j : ℕ) → j < length bs → slice_get bs j ≡ Some (block_numbered bs j)
got_numbered [] j h = absurd (omega (arith, h))
got_numbered (b ∷ bs) zero h = refl
got_numbered (b ∷ bs) (suc j) h = got_numbered bs j (omega (arith, h))

pub block_is : (bs : List Block) (i : ℕ) (b : Block) → slice_get bs i ≡ Some b → block_numbered bs i ≡ b
block_is bs i b h = rw h refl

pub formal_no_procedure : (sort : Sort) → sort ≡ sorts.by_name → is_some (procedure_in sort) ≡ false
formal_no_procedure sort is = ap (λ (x : Sort). is_some (procedure_in x)) is

pub variable_no_procedure : (sort : Sort) → is_variable sort ≡ true → is_some (procedure_in sort) ≡ false
variable_no_procedure (sorts.procedure block) is = absurd (let clash : false ≡ true = is in cc)
variable_no_procedure sort is = refl

pub left_place : (u : Use) (s : Sort) → (left_use u s).spot ≡ u.spot
left_place u (sorts.procedure block) = refl
left_place u sorts.variable = refl
left_place u sorts.by_name = refl
left_place u sorts.array = refl
left_place u (sorts.formal_array lows) = refl
left_place u sorts.event = refl
left_place u sorts.formal_event = refl
left_place u sorts.label = refl
left_place u sorts.file = refl

-- a value only grows
pub value_after_le : (value : ℕ) (ds : List ℕ) → value ≤ value_after value ds
value_after_le value [] = omega arith
value_after_le value (d ∷ ds) = omega (arith, value_after_le (value * 10 + (d - 48)) ds)
