-- A name that a block has is that of no simple variable which the block declares later.
use Rattle.std.proofs.Common.{◌≡◌, ℕ, ◌==◌, Bool, true, false, cond, List, [], ◌∷◌, ◌++◌, map, filter, Some, None, refl, sym, subst, if◌then◌else◌}
use Rattle.std.proofs.lemmas.Bool.{eq-eqb}
use Rattle.std.specs.List.{AllByRecursion}
use Rattle.algol_tree.specs.declared.tree.Kind.{Kind}
use Rattle.algol_tree.specs.declared.tree.Named.{Named}
use Rattle.algol_tree.specs.Blocks.{Block, block_numbered}
use Rattle.algol_tree.specs.Classes.{Class}
use Rattle.algol_tree.specs.Names.{name_is_one_of, result_names_of}
use Rattle.algol_tree.specs.Plain as tree
use Rattle.algol_tree.specs.Plain.{PDecl, PDecls}
use Rattle.algol_tree.specs.Sorts.{Sort, same_name, Declared, look_up, declare}
use Rattle.algol_tree.specs.Surroundings.{Surroundings, made_known, knowing}
use Rattle.algol_tree.proofs.Trees.{among_behind}
use Rattle.b67_templates.specs.Cells.{Simple, value, of_kind, variables}
use Rattle.b67_list.proofs.Lists.{each_both, each_map}
use Rattle.b67_fitting.specs.Typing.{TypedDecls}
use Rattle.b67_fitting.proofs.Declaring.{names_of, names_both, entry}
use Rattle.b67_fitting.proofs.ResultsApart.{none_named}

-- of what is declared in a block the block has the name
pub declared_name : (block depth : ℕ) (s : Sort) (c : Class) (ns : List Named) (name : List ℕ) (d : Declared) → look_up (declare block depth s c ns) name ≡ Some d →
    name_is_one_of (names_of block (declare block depth s c ns)) name ≡ true
declared_name block depth s c [] name d h = absurd (let clash : None ≡ Some d = h in cc)
declared_name block depth s c (n ∷ ns) name d h =
    subst (λ (b : Bool). name_is_one_of (map (λ (e : Declared). e.name) (cond b (entry block depth s c n ∷ rest) rest)) name ≡ true) (sym (eq-eqb block block refl))
    (by (same_name n.name name) (declared_name block depth s c ns name d) h)
  where
    rest : List Declared
    rest = filter (λ (e : Declared). e.block == block) (declare block depth s c ns)

    by : (b : Bool) → (look_up (declare block depth s c ns) name ≡ Some d → name_is_one_of (names_of block (declare block depth s c ns)) name ≡ true) →
        (if b then Some (entry block depth s c n) else look_up (declare block depth s c ns) name) ≡ Some d → (if b then true else name_is_one_of (names_of block (declare block depth s c ns)) name) ≡ true
    by true later g = refl
    by false later g = later g

module _ (blocks : List Block) where
  -- after a declaration the block has the names that it had
  still_named : (a : Surroundings) (d : PDecl) (ds : PDecls) (name : List ℕ) → name_is_one_of (names_of a.block a.known) name ≡ true → name_is_one_of (names_of a.block (knowing blocks d ds a).known) name ≡ true
  still_named a d ds name h =
      let new = made_known blocks d ds a in
      subst (λ (names : List (List ℕ)). name_is_one_of names name ≡ true) (sym (names_both a.block new a.known)) (among_behind (names_of a.block new) (names_of a.block a.known) name h)

  abbrev IsOther : List ℕ → Simple → Type 0
  IsOther name x = same_name x.name name ≡ false

  kind_other : (kind : Kind) (ns : List Named) (name : List ℕ) → AllByRecursion (λ (n : Named). same_name n.name name ≡ false) ns → AllByRecursion (IsOther name) (of_kind kind ns)
  kind_other kind ns name h = each_map (IsOther name) (λ (n : Named). record { name = n.name; wanted = value kind }) ns h

  pub later : (a : Surroundings) (first : List Declared) (ds : PDecls) → TypedDecls blocks a first ds → (name : List ℕ) → name_is_one_of (names_of a.block a.known) name ≡ true →
      AllByRecursion (λ (x : Simple). same_name x.name name ≡ false) (variables ds)
  later a first tree.no_decls t name h = tt
  later a first (tree.decls (tree.simple kind ns) ds) t name h =
      let results = result_names_of (block_numbered blocks a.block) in
      let here = names_of a.block a.known in
      each_both (IsOther name) (of_kind kind ns) (variables ds) (kind_other kind ns name (none_named (results ++ here) ns name (among_behind results here name h) t.0.once))
      (later (knowing blocks (tree.simple kind ns) ds a) first ds t.2 name (still_named a (tree.simple kind ns) ds name h))
  later a first (tree.decls d ds) t name h = later (knowing blocks d ds a) first ds t.2 name (still_named a d ds name h)
