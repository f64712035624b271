-- What holds of the names of a tree that breaks no rule of names.
use Rattle.std.proofs.Common.{◌≡◌, Bool, true, false, List, [], ◌∷◌, ◌++◌, refl}
use Rattle.std.specs.Prelude.{not}
use Rattle.std.specs.List.{flat_map}
use Rattle.algol_tree.specs.declared.token.Spot.{Spot}
use Rattle.algol_tree.specs.declared.refusal.Code.TheVariants as codes
use Rattle.algol_tree.specs.declared.refusal.Fault.{Fault}
use Rattle.algol_tree.specs.Plain.{PProgram}
use Rattle.algol_tree.specs.Blocks.{blocks_of_program}
use Rattle.algol_tree.specs.Names.{cells_beyond, deep_actuals, deep_blocks, declared_twice, if_so, long_segments, procedures_beyond, unknown_names}
use Rattle.algol_tree.specs.Accepted.{broken, scope_faults, sites_of}
use Rattle.algol_scope.proofs.Scoped.{unbroken}
use Rattle.b67_list.proofs.Lists.{append_none_left, append_none_right}

pub not_unknown : (b : Bool) (spot : Spot) → if_so (not b) spot ≡ [] → b ≡ true
not_unknown true spot h = refl
not_unknown false spot h = absurd (let clash : spot ∷ [] ≡ [] = h in cc)

-- the first two of six lists, of which nothing comes together
first_two : (a b c d e f : List Fault) → a ++ b ++ c ++ d ++ e ++ f ≡ [] → (a ≡ []) × (b ≡ [])
first_two a b c d e f h =
    let five = append_none_left (a ++ b ++ c ++ d ++ e) f h in
    let two = append_none_left (a ++ b) c (append_none_left (a ++ b ++ c) d (append_none_left (a ++ b ++ c ++ d) e five)) in
    (append_none_left a b two, append_none_right a b two)

pub record IsNamed (p : PProgram) : Type 0 where
  pub known : flat_map unknown_names (sites_of p) ≡ []
  pub once : flat_map (declared_twice (blocks_of_program p)) (sites_of p) ≡ []

pub named : (p : PProgram) → scope_faults p ≡ [] → IsNamed p
unfolding scope_faults
named p h =
    let blocks = blocks_of_program p in
    let ss = sites_of p in
    let two =
    first_two (broken codes.UnknownName (flat_map unknown_names ss)) (broken codes.DeclaredTwice (flat_map (declared_twice blocks) ss))
    (broken codes.TooManyLevels (deep_blocks blocks ++ flat_map deep_actuals ss)) (broken codes.TooManyCells (cells_beyond blocks ss))
    (broken codes.TooManyProcedures (procedures_beyond blocks)) (broken codes.SegmentTooLong (long_segments p ss)) h in
    record {
      known = unbroken codes.UnknownName (flat_map unknown_names ss) two.0;
      once = unbroken codes.DeclaredTwice (flat_map (declared_twice blocks) ss) two.1;
    }
