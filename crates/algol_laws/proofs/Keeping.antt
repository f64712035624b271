-- What each change of a world leaves as it is.
use Rattle.std.proofs.Common.{◌≡◌, refl, sym, ap, ◌∙◌, subst, ℕ, zero, suc, List, [], ◌∷◌, ◌++◌, Option, Some, Bool, true, false}
use Rattle.std.specs.Prelude.{if◌then◌else◌, ◌==◌}
use Rattle.std.proofs.lemmas.List.{append_assoc, append-nil}
use Rattle.b67_list.specs.Numbered.{numbered, set_numbered}
use Rattle.b67_list.proofs.Lists.{get_front}
use Rattle.b67_list.proofs.Numbered.{numbered_set}
use Rattle.b67_list.proofs.Numbers.{number_itself, same_number}
use Rattle.algol_tree.specs.Sorts.{same_name}
use Rattle.algol_meaning.specs.Value.{Reference, Cell}
use Rattle.algol_meaning.specs.World.{NamedCell, Instance, Process, WorldFault, World, instance_at, or_no_instance, cell_in, cells_with, with_instance, set_cell, add_cells, with_process}
use Rattle.algol_meaning.specs.Instances.{leave}
use Rattle.algol_laws.specs.Kept.{cell_is_there, InstanceGrown, ProcessGrown, InstanceKept, Freed, nobody, ProcessKept, WorldKept}
use Rattle.algol_laws.proofs.Cells.{numbered_other, with_other}

-- ---- lists

pub numbered_before : {A : Type 0} (xs ys : List A) (i : ℕ) (x : A) → numbered xs i ≡ Some x → numbered (xs ++ ys) i ≡ Some x
numbered_before xs ys zero x e = cc
numbered_before xs ys (suc k) x e = get_front xs ys k x e

-- ---- cells

has_with : (cells : List NamedCell) (m n : List ℕ) (c : Cell) → cell_is_there cells n ≡ true → cell_is_there (cells_with cells m c) n ≡ true
has_with [] m n c e = e
has_with (x ∷ cells) m n c e = by (same_name x.name m) refl e (has_with cells m n c)
  where
    by : (b : Bool) → same_name x.name m ≡ b → cell_is_there (x ∷ cells) n ≡ true → (cell_is_there cells n ≡ true → cell_is_there (cells_with cells m c) n ≡ true) →
        cell_is_there (if b then record x { cell = c } ∷ cells else x ∷ cells_with cells m c) n ≡ true
    by true f e g = e
    by false f e g = under (same_name x.name n) e g
      where
        under : (b : Bool) → (if b then true else cell_is_there cells n) ≡ true → (cell_is_there cells n ≡ true → cell_is_there (cells_with cells m c) n ≡ true) →
            (if b then true else cell_is_there (cells_with cells m c) n) ≡ true
        under true e g = refl
        under false e g = g e

has_before : (cells more : List NamedCell) (n : List ℕ) → cell_is_there cells n ≡ true → cell_is_there (cells ++ more) n ≡ true
has_before [] more n e = cc
has_before (x ∷ cells) more n e = by (same_name x.name n) e (has_before cells more n)
  where
    by : (b : Bool) → (if b then true else cell_is_there cells n) ≡ true → (cell_is_there cells n ≡ true → cell_is_there (cells ++ more) n ≡ true) →
        (if b then true else cell_is_there (cells ++ more) n) ≡ true
    by true e g = refl
    by false e g = g e

in_before : (cells more : List NamedCell) (n : List ℕ) → cell_is_there cells n ≡ true → cell_in (cells ++ more) n ≡ cell_in cells n
in_before [] more n e = cc
in_before (x ∷ cells) more n e = by (same_name x.name n) e (in_before cells more n)
  where
    by : (b : Bool) → (if b then true else cell_is_there cells n) ≡ true → (cell_is_there cells n ≡ true → cell_in (cells ++ more) n ≡ cell_in cells n) →
        (if b then x.cell else cell_in (cells ++ more) n) ≡ (if b then x.cell else cell_in cells n)
    by true e g = refl
    by false e g = g e

-- ---- nothing changes, and one change after another

pub instance_stays : (s : List Reference) (i : ℕ) (x : Instance) → InstanceKept s i x x
instance_stays s i x =
    record {
      grown = record { block = refl; parent = refl; process = refl; left = λ e. e; cells = λ n e. e };
      values = λ n e d. refl;
    }

pub instance_grown : (x y z : Instance) → InstanceGrown x y → InstanceGrown y z → InstanceGrown x z
instance_grown x y z f g =
    record {
      block = g.block ∙ f.block;
      parent = g.parent ∙ f.parent;
      process = g.process ∙ f.process;
      left = λ e. g.left (f.left e);
      cells = λ n e. g.cells n (f.cells n e);
    }

pub process_grown : (q r s : Process) → ProcessGrown q r → ProcessGrown r s → ProcessGrown q s
process_grown q r s f g = record { critical = g.critical ∙ f.critical; task = g.task ∙ f.task }

pub instance_after : (s : List Reference) (i : ℕ) (x y z : Instance) → InstanceKept s i x y → InstanceKept s i y z → InstanceKept s i x z
instance_after s i x y z f g =
    record { grown = instance_grown x y z f.grown g.grown; values = λ n e d. g.values n (f.grown.cells n e) d ∙ f.values n e d }

process_stays : (p : ℕ) (j : ℕ) (q : Process) → ProcessKept p nobody j q q
process_stays p j q = record { grown = record { critical = refl; task = refl }; freed = λ d e. cc; other = λ d e. refl }

pub unchanged : (p : ℕ) (s : List Reference) (w : World) → WorldKept p nobody s w w
unchanged p s w =
    record {
      instances = λ i x e. (x, e, instance_stays s i x);
      processes = λ j q e. (q, e, process_stays p j q);
      output = ([], sym (append-nil w.output));
    }

-- a release comes first, or last
process_then : (p : ℕ) (rs : Freed) (j : ℕ) (a b c : Process) → ProcessKept p rs j a b → ProcessKept p nobody j b c → ProcessKept p rs j a c
process_then p rs j a b c f g =
    record {
      grown = process_grown a b c f.grown g.grown;
      freed = λ d e.
          let m = f.freed d e in let n : c ≡ b = g.other d refl in (
            ap (λ (x : Process). x.todo) n ∙ m.0,
            ap (λ (x : Process). x.state) n ∙ m.1,
            ap (λ (x : Process). x.woken) n ∙ m.2,
          );
      other = λ d e. g.other d refl ∙ f.other d e;
    }

process_before : (p : ℕ) (rs : Freed) (j : ℕ) (a b c : Process) → ProcessKept p nobody j a b → ProcessKept p rs j b c → ProcessKept p rs j a c
process_before p rs j a b c f g =
    record {
      grown = process_grown a b c f.grown g.grown;
      freed = λ d e. let m : b ≡ a = f.other d refl in let n = g.freed d e in (n.0 ∙ ap (λ (x : Process). x.todo) m, n.1, n.2 ∙ ap (λ (x : Process). rs.woken j x) m);
      other = λ d e. g.other d e ∙ f.other d refl;
    }

pub lines_after : (a b c : World) → ((lines : List (List ℕ)) × (b.output ≡ a.output ++ lines)) → ((lines : List (List ℕ)) × (c.output ≡ b.output ++ lines)) →
    (lines : List (List ℕ)) × (c.output ≡ a.output ++ lines)
lines_after a b c f g = (f.0 ++ g.0, g.1 ∙ ap (λ x. x ++ g.0) f.1 ∙ append_assoc a.output f.0 g.0)

pub kept_then : (p : ℕ) (rs : Freed) (s : List Reference) (a b c : World) → WorldKept p rs s a b → WorldKept p nobody s b c → WorldKept p rs s a c
kept_then p rs s a b c f g =
    record {
      instances = λ i x e.
          let m = f.instances i x e in let n = g.instances i m.0 m.1 in (n.0, n.1, instance_after s i x m.0 n.0 m.2 n.2);
      processes = λ j q e.
          let m = f.processes j q e in let n = g.processes j m.0 m.1 in (n.0, n.1, process_then p rs j q m.0 n.0 m.2 n.2);
      output = lines_after a b c f.output g.output;
    }

-- nobody is released, whatever a woken number would be
pub nobody_kept : (p : ℕ) (woken : ℕ → Process → ℕ) (s : List Reference) (a b : World) → WorldKept p nobody s a b → WorldKept p (record { processes = []; woken = woken }) s a b
nobody_kept p woken s a b f =
    record {
      instances = f.instances;
      processes = λ j q e.
          let m = f.processes j q e in (m.0, m.1, record { grown = m.2.grown; freed = λ d g. cc; other = m.2.other });
      output = f.output;
    }

pub kept_before : (p : ℕ) (rs : Freed) (s : List Reference) (a b c : World) → WorldKept p nobody s a b → WorldKept p rs s b c → WorldKept p rs s a c
kept_before p rs s a b c f g =
    record {
      instances = λ i x e.
          let m = f.instances i x e in let n = g.instances i m.0 m.1 in (n.0, n.1, instance_after s i x m.0 n.0 m.2 n.2);
      processes = λ j q e.
          let m = f.processes j q e in let n = g.processes j m.0 m.1 in (n.0, n.1, process_before p rs j q m.0 n.0 m.2 n.2);
      output = lines_after a b c f.output g.output;
    }

-- ---- one instance changes

or_this : (o : Option Instance) (x : Instance) → o ≡ Some x → or_no_instance o ≡ x
or_this o x e = ap or_no_instance e

not_itself : (i j : ℕ) → i ≡ j → (j == i) ≡ false → ⊥
not_itself i j same e = let wrong : false ≡ true = sym e ∙ ap (λ k. j == k) same ∙ number_itself j in cc

pub instance_changed : (p : ℕ) (s : List Reference) (w : World) (i : ℕ) (y : Instance) → InstanceKept s i (instance_at w i) y → WorldKept p nobody s w (with_instance w i y)
instance_changed p s w i y f =
    record {
      instances = λ j x e. by (j == i) refl x e;
      processes = λ j q e. (q, e, process_stays p j q);
      output = ([], sym (append-nil w.output));
    }
  where
    here : (x : Instance) → numbered w.instances i ≡ Some x →
        (z : Instance) × (numbered (set_numbered w.instances i y) i ≡ Some z) × InstanceKept s i x z
    here x e =
        (y, numbered_set w.instances i x y e, subst (λ (z : Instance). InstanceKept s i z y) (or_this (numbered w.instances i) x e) f)

    there : (j : ℕ) → j ≡ i → (x : Instance) → numbered w.instances j ≡ Some x →
        (z : Instance) × (numbered (set_numbered w.instances i y) j ≡ Some z) × InstanceKept s j x z
    there j same x e =
        subst (λ (k : ℕ). (z : Instance) × (numbered (set_numbered w.instances i y) k ≡ Some z) × InstanceKept s k x z) (sym same)
        (here x (ap (λ k. numbered w.instances k) (sym same) ∙ e))

    by : {j : ℕ} (b : Bool) → (j == i) ≡ b → (x : Instance) → numbered w.instances j ≡ Some x →
        (z : Instance) × (numbered (set_numbered w.instances i y) j ≡ Some z) × InstanceKept s j x z
    by {j} true e x g = there j (same_number j i e) x g
    by {j} false e x g = (x, numbered_other w.instances i j y (λ same. not_itself i j same e) ∙ g, instance_stays s j x)

pub cell_set : (p : ℕ) (w : World) (r : Reference) (c : Cell) → WorldKept p nobody (r ∷ []) w (set_cell w r c)
cell_set p w r c =
    instance_changed p (r ∷ []) w r.instance (record x { cells = cells_with x.cells r.name c })
    (record {
      grown = record { block = refl; parent = refl; process = refl; left = λ e. e; cells = λ n e. has_with x.cells r.name n c e };
      values = λ n e d. with_other x.cells r.name n c (λ same. d.0 (ap (λ (m : List ℕ). record r { name = m }) same));
    })
  where
    x : Instance
    x = instance_at w r.instance

pub cells_added : (p : ℕ) (s : List Reference) (w : World) (i : ℕ) (more : List NamedCell) → WorldKept p nobody s w (add_cells w i more)
cells_added p s w i more =
    instance_changed p s w i (record x { cells = x.cells ++ more })
    (record {
      grown = record { block = refl; parent = refl; process = refl; left = λ e. e; cells = λ n e. has_before x.cells more n e };
      values = λ n e d. in_before x.cells more n e;
    })
  where
    x : Instance
    x = instance_at w i

one_left : (p : ℕ) (s : List Reference) (w : World) (i : ℕ) → WorldKept p nobody s w (with_instance w i (record (instance_at w i) { left = true }))
one_left p s w i =
    instance_changed p s w i (record x { left = true })
    (record { grown = record { block = refl; parent = refl; process = refl; left = λ e. refl; cells = λ n e. e }; values = λ n e d. refl })
  where
    x : Instance
    x = instance_at w i

pub instances_left : (p : ℕ) (s : List Reference) (w : World) (is : List ℕ) → WorldKept p nobody s w (leave w is)
instances_left p s w [] = unchanged p s w
instances_left p s w (i ∷ is) =
    kept_then p nobody s w (with_instance w i (record (instance_at w i) { left = true })) (leave (with_instance w i (record (instance_at w i) { left = true })) is)
    (one_left p s w i) (instances_left p s (with_instance w i (record (instance_at w i) { left = true })) is)

-- ---- one more instance, one more process, lines and faults

pub instance_added : (p : ℕ) (s : List Reference) (w : World) (x : Instance) → WorldKept p nobody s w (record w { instances = w.instances ++ x ∷ [] })
instance_added p s w x =
    record {
      instances = λ j y e. (y, numbered_before w.instances (x ∷ []) j y e, instance_stays s j y);
      processes = λ j q e. (q, e, process_stays p j q);
      output = ([], sym (append-nil w.output));
    }

pub process_added : (p : ℕ) (s : List Reference) (w : World) (q : Process) → WorldKept p nobody s w (record w { processes = w.processes ++ q ∷ [] })
process_added p s w q =
    record {
      instances = λ j y e. (y, e, instance_stays s j y);
      processes = λ j r e. (r, numbered_before w.processes (q ∷ []) j r e, process_stays p j r);
      output = ([], sym (append-nil w.output));
    }

pub line_added : (p : ℕ) (s : List Reference) (w : World) (line : List ℕ) → WorldKept p nobody s w (record w { output = w.output ++ line ∷ [] })
line_added p s w line =
    record {
      instances = λ j y e. (y, e, instance_stays s j y);
      processes = λ j r e. (r, e, process_stays p j r);
      output = (line ∷ [], refl);
    }

pub fault_kept : (p : ℕ) (s : List Reference) (w : World) (f : Option WorldFault) → WorldKept p nobody s w (record w { fault = f })
fault_kept p s w f =
    record {
      instances = λ j y e. (y, e, instance_stays s j y);
      processes = λ j r e. (r, e, process_stays p j r);
      output = ([], sym (append-nil w.output));
    }

-- ---- processes

module _ (p : ℕ) (rs : Freed) (s : List Reference) (w : World) (i : ℕ) (r : Process) where
  abbrev Stands : ℕ → Process → Type 0
  Stands j q = (z : Process) × (numbered (set_numbered w.processes i r) j ≡ Some z) × ProcessKept p rs j q z

  process_here : ((q : Process) → numbered w.processes i ≡ Some q → ProcessKept p rs i q r) → (j : ℕ) → j ≡ i → (q : Process) → numbered w.processes j ≡ Some q → Stands j q
  process_here f j same q e =
      subst (λ (k : ℕ). Stands k q) (sym same)
      (let at_i = ap (λ k. numbered w.processes k) (sym same) ∙ e in (r, numbered_set w.processes i q r at_i, f q at_i))

  process_by : ((q : Process) → numbered w.processes i ≡ Some q → ProcessKept p rs i q r) → ((j : ℕ) (q : Process) → (j == i) ≡ false → ProcessKept p rs j q q) →
      (j : ℕ) (b : Bool) → (j == i) ≡ b → (q : Process) → numbered w.processes j ≡ Some q → Stands j q
  process_by f g j true e q found = process_here f j (same_number j i e) q found
  process_by f g j false e q found = (q, numbered_other w.processes i j r (λ same. not_itself i j same e) ∙ found, g j q e)

  pub process_set : ((q : Process) → numbered w.processes i ≡ Some q → ProcessKept p rs i q r) → ((j : ℕ) (q : Process) → (j == i) ≡ false → ProcessKept p rs j q q) →
      WorldKept p rs s w (with_process w i r)
  process_set f g =
      record {
        instances = λ j y e. (y, e, instance_stays s j y);
        processes = λ j q e. process_by f g j (j == i) refl q e;
        output = ([], sym (append-nil w.output));
      }

-- the actor's own process
pub actor_set : (p : ℕ) (s : List Reference) (w : World) (r : Process) →
    ((q : Process) → numbered w.processes p ≡ Some q → (r.critical ≡ q.critical) × (r.task ≡ q.task)) → WorldKept p nobody s w (with_process w p r)
actor_set p s w r f =
    process_set p nobody s w p r
    (λ q e. record { grown = record { critical = (f q e).0; task = (f q e).1 }; freed = λ d g. absurd (d refl); other = λ d g. absurd (d refl) })
    (λ j q e. process_stays p j q)
