-- Tables of what a heading says of its parameters.
use Rattle.std.proofs.Common.{◌≡◌, ℕ, ◌+◌, ◌<◌, Bool, true, false, List, [], ◌∷◌, length, drop, get_or, is_some, Option, Some, refl, ap, sym, ◌∙◌}
use Rattle.std.specs.Prelude.{if◌then◌else◌, cond}
use Rattle.std.specs.Borrow.{Bor}
use Rattle.std.specs.Str.{bytes_eq}
use Rattle.std.specs.BTreeMap as tree
use Rattle.algol_tree.specs.declared.tree.Heading.{Heading}
use Rattle.algol_tree.specs.declared.tree.Named.{Named}
use Rattle.algol_tree.specs.declared.tree.Spec.{Spec}
use Rattle.algol_tree.specs.declared.tree.Spec.TheVariants as specs'
use Rattle.algol_tree.specs.Classes as class
use Rattle.algol_tree.specs.Classes.{Class}
use Rattle.algol_tree.specs.Sorts.{class_by, class_in, is_named_in, same_name, specified_by}
use Rattle.algol_tree.proofs.Names.{bytes_same_name}
use Rattle.b67_list.proofs.Lists.{drop_read}
use Rattle.algol_sorts.specs.declared.sort.Sort.{Sort}
use Rattle.algol_sorts.specs.declared.heading.Specified.{Specified}
use Rattle.algol_sorts.specs.Sorts.{parameter_by}
use Rattle.algol_sorts.specs.declared.key.Key.{Key}
use Rattle.algol_sorts.specs.Tables.{SortTable, end_of, sort_named}
use Rattle.algol_sorts.specs.Specified.{AreNamed, SaysAll, Specifies, or_unspecified, sort_in, sort_under, specified_as, valued}
use Rattle.algol_sorts.proofs.Keys.{key_cmp, updates_key}

-- a table after one more name
put : (name : Bor (List ℕ)) (key : Key) (old new : SortTable) (s : Sort) → key ≡ record { end = end_of name.now; bytes = name } →
    tree.UpdatesBy key_cmp (key_cmp key) old new (Some s) → (q : List ℕ) →
    sort_under new q ≡ (if same_name name.now q then s else sort_under old q)
put name key old new s k u q =
    ap or_unspecified (updates_key name key old new (Some s) k u q) ∙ chosen (bytes_eq name.now q) s (sort_named old q)
    ∙ ap (λ b. if b then s else sort_under old q) (bytes_same_name name.now q)
  where
    chosen : (b : Bool) (s : Sort) (o : Option Sort) → or_unspecified (cond b (Some s) o) ≡ (if b then s else or_unspecified o)
    chosen true s o = refl
    chosen false s o = refl

put_name : (name : Bor (List ℕ)) (key : Key) (old new : SortTable) (s : Sort) → key ≡ record { end = end_of name.now; bytes = name } →
    tree.UpdatesBy key_cmp (key_cmp key) old new (Some s) → (q : List ℕ) →
    is_some (sort_named new q) ≡ (if same_name name.now q then true else is_some (sort_named old q))
put_name name key old new s k u q =
    ap (λ o. is_some o) (updates_key name key old new (Some s) k u q) ∙ chosen (bytes_eq name.now q) s (sort_named old q)
    ∙ ap (λ b. if b then true else is_some (sort_named old q)) (bytes_same_name name.now q)
  where
    chosen : (b : Bool) (s : Sort) (o : Option Sort) → is_some (cond b (Some s) o) ≡ (if b then true else is_some o)
    chosen true s o = refl
    chosen false s o = refl

-- ---- one more name of a specification

joined : {A : Type 0} (a b : Bool) (f x : A) → (if b then f else (if a then f else x)) ≡ (if (if a then true else b) then f else x)
joined true true f x = refl
joined true false f x = refl
joined false true f x = refl
joined false false f x = refl

pub name_step : (ns : List Named) (i : ℕ) (n : Named) (name : Bor (List ℕ)) (key : Key) (old new : SortTable) (s t : Sort) → i < length ns → n ≡ get_or ns i n →
    name.now ≡ n.name → s ≡ t → key ≡ record { end = end_of name.now; bytes = name } →
    tree.UpdatesBy key_cmp (key_cmp key) old new (Some s) → (q : List ℕ) →
    (if is_named_in (drop (i + 1) ns) q then t else sort_under new q) ≡ (if is_named_in (drop i ns) q then t else sort_under old q)
name_step ns i n name key old new s t h e p same k u q =
    ap (λ x. if is_named_in (drop (i + 1) ns) q then t else x) (put name key old new s k u q ∙ ap (λ x. if same_name name.now q then x else sort_under old q) same)
    ∙ joined (same_name name.now q) (is_named_in (drop (i + 1) ns) q) t (sort_under old q)
    ∙ ap (λ (w : List ℕ). if (if same_name w q then true else is_named_in (drop (i + 1) ns) q) then t else sort_under old q) p
    ∙ sym (ap (λ xs. if is_named_in xs q then t else sort_under old q) (drop_read ns i n h e))

pub value_step : (ns : List Named) (i : ℕ) (n : Named) (name : Bor (List ℕ)) (key : Key) (old new : SortTable) (s : Sort) → i < length ns → n ≡ get_or ns i n →
    name.now ≡ n.name → key ≡ record { end = end_of name.now; bytes = name } →
    tree.UpdatesBy key_cmp (key_cmp key) old new (Some s) → (q : List ℕ) →
    (if is_named_in (drop (i + 1) ns) q then true else is_some (sort_named new q)) ≡ (if is_named_in (drop i ns) q then true else is_some (sort_named old q))
value_step ns i n name key old new s h e p k u q =
    ap (λ x. if is_named_in (drop (i + 1) ns) q then true else x) (put_name name key old new s k u q)
    ∙ joined (same_name name.now q) (is_named_in (drop (i + 1) ns) q) true (is_some (sort_named old q))
    ∙ ap (λ (w : List ℕ). if (if same_name w q then true else is_named_in (drop (i + 1) ns) q) then true else is_some (sort_named old q)) p
    ∙ sym (ap (λ xs. if is_named_in xs q then true else is_some (sort_named old q)) (drop_read ns i n h e))

pub values_end : (table : SortTable) (left ns : List Named) (q : List ℕ) → left ≡ [] →
    (if is_named_in left q then true else is_some (sort_named table q)) ≡ is_named_in ns q → is_some (sort_named table q) ≡ is_named_in ns q
values_end table left ns q e h = ap (λ xs. if is_named_in xs q then true else is_some (sort_named table q)) (sym e) ∙ h

-- ---- what the first specification says

classed : (b : Bool) (s : Spec) (c : Class) (t : Sort) → t ≡ parameter_by c false →
    (if b then specified_as s else t) ≡ parameter_by (if b then class_by s else c) false
classed true (specs'.Simple kind ns) c t h = refl
classed true (specs'.Events ns) c t h = refl
classed true (specs'.Arrays kind ns lows) c t h = refl
classed false s c t h = h

first_sort : (ss : List Spec) (name : List ℕ) → sort_in ss name ≡ parameter_by (class_in ss name) false
first_sort [] name = refl
first_sort (s ∷ ss) name = classed (specified_by s name) s (class_in ss name) (sort_in ss name) (first_sort ss name)

valued_class : (c : Class) (value : Bool) → valued value (parameter_by c false) ≡ parameter_by c value
valued_class (class.simple kind) true = refl
valued_class (class.simple kind) false = refl
valued_class (class.array kind subscripts) true = refl
valued_class (class.array kind subscripts) false = refl
valued_class class.event true = refl
valued_class class.event false = refl
valued_class _ true = refl
valued_class _ false = refl

pub says_all : (s : Specified) (h : Heading) (ss : List Spec) (ns : List Named) → ss ≡ h.specs → ns ≡ h.values → Specifies s.sorts ss → AreNamed s.values ns → SaysAll s h
says_all s h ss ns p v specified named q =
    ap (λ b. valued b (sort_under s.sorts q)) (named q ∙ ap (λ xs. is_named_in xs q) v)
    ∙ ap (λ t. valued (is_named_in h.values q) t) (specified q ∙ ap (λ xs. sort_in xs q) p ∙ first_sort h.specs q)
    ∙ valued_class (class_in h.specs q) (is_named_in h.values q)
