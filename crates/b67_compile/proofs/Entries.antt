-- The labels of a segment's table are those of the blocks whose text stands in the segment, in the order of the blocks.
use Rattle.std.proofs.Common.{arith, ◌≡◌, ℕ, ◌+◌, ◌<◌, Bool, true, false, List, [], ◌∷◌, ◌++◌, map, length, None, refl, sym, ap, ◌∙◌, subst, if◌then◌else◌, nat_eq, append-nil, append_assoc}
use Rattle.std.proofs.lemmas.Bool.Decides.{nat_tests}
use Rattle.std.specs.List.{AllByRecursion}
use Rattle.algol_tree.specs.declared.token.Spot.{Spot}
use Rattle.algol_tree.specs.declared.tree.Heading.{Heading}
use Rattle.algol_tree.specs.Blocks.{Block, block_numbered, number_at, procedure_block, of_statement, of_procedure, blocks_of, blocks_in_stmts, blocks_in_decls, decls_of, stmts_of}
use Rattle.algol_tree.specs.Cells.{level_of}
use Rattle.algol_tree.specs.Plain as tree
use Rattle.algol_tree.specs.Plain.{PStmt, PStmts, PDecls}
use Rattle.algol_paths.specs.Segments.{is_procedure, procedures_before, segment_among, segment_of}
use Rattle.b67_templates.specs.Labels.{labels_in}
use Rattle.b67_emit_text.specs.Entries.{DeclaredLabel, own_entries, entries_in_stmt, entries_in_stmts, entries_of}
use Rattle.b67_emit_text.specs.Texts.{Text, procedure_text, texts_of, texts_in_stmts, texts_in_decls}
use Rattle.b67_list.proofs.Lists.{each_back, each_front}

-- those of a text
abbrev pub entries_in_text : Text → List DeclaredLabel
entries_in_text t = entries_of t.level t.decls t.stmts

abbrev pub chosen : Bool → List DeclaredLabel → List DeclaredLabel
chosen true es = es
chosen false es = []

-- those of the text with this number, where the first of these has that one
abbrev pub entries_numbered : ℕ → List Text → ℕ → List DeclaredLabel
entries_numbered first [] k = []
entries_numbered first (t ∷ ts) k = chosen (nat_eq first k) (entries_in_text t) ++ entries_numbered (first + 1) ts k

chosen_other : (a k : ℕ) (es : List DeclaredLabel) → k < a → chosen (nat_eq a k) es ≡ []
chosen_other a k es h =
    let other : nat_eq a k ≡ false = grind (arith, nat_tests) in
    ap (λ (b : Bool). chosen b es) other

pub numbered_none : (first : ℕ) (ts : List Text) (k : ℕ) → k < first → entries_numbered first ts k ≡ []
numbered_none first [] k h = refl
numbered_none first (t ∷ ts) k h =
    ap (λ (es : List DeclaredLabel). es ++ entries_numbered (first + 1) ts k) (chosen_other first k (entries_in_text t) h) ∙ numbered_none (first + 1) ts k (omega (arith, h))

numbered_both : (first : ℕ) (xs ys : List Text) (k : ℕ) → entries_numbered first (xs ++ ys) k ≡ entries_numbered first xs k ++ entries_numbered (first + length xs) ys k
numbered_both first [] ys k =
    let same : first ≡ first + 0 = omega arith in
    ap (λ (n : ℕ). entries_numbered n ys k) same
numbered_both first (x ∷ xs) ys k =
    let same : first + 1 + length xs ≡ first + length (x ∷ xs) = omega arith in
    ap (λ (es : List DeclaredLabel). chosen (nat_eq first k) (entries_in_text x) ++ es)
    (numbered_both (first + 1) xs ys k ∙ ap (λ (n : ℕ). entries_numbered (first + 1) xs k ++ entries_numbered n ys k) same)
    ∙ sym (append_assoc (chosen (nat_eq first k) (entries_in_text x)) (entries_numbered (first + 1) xs k) (entries_numbered (first + length (x ∷ xs)) ys k))

module _ (blocks : List Block) where
  -- the segment in which the block's text stands
  abbrev pub segment_at : Block → ℕ
  segment_at b = segment_of blocks (number_at blocks b.spot)

  -- the labels that a block declares
  abbrev pub entries_by : Block → List DeclaredLabel
  entries_by b = own_entries (level_of b) b.stmts (labels_in b.decls)

  -- those of the blocks of a segment
  abbrev pub entries_among : ℕ → List Block → List DeclaredLabel
  entries_among k [] = []
  entries_among k (b ∷ bs) = chosen (nat_eq (segment_at b) k) (entries_by b) ++ entries_among k bs

  pub among_both : (k : ℕ) (xs ys : List Block) → entries_among k (xs ++ ys) ≡ entries_among k xs ++ entries_among k ys
  among_both k [] ys = refl
  among_both k (b ∷ xs) ys =
      ap (λ (es : List DeclaredLabel). chosen (nat_eq (segment_at b) k) (entries_by b) ++ es) (among_both k xs ys)
      ∙ sym (append_assoc (chosen (nat_eq (segment_at b) k) (entries_by b)) (entries_among k xs) (entries_among k ys))

  -- the block is found by its place
  abbrev pub IsOwn : Block → Type 0
  IsOwn b = block_numbered blocks (number_at blocks b.spot) ≡ b

  abbrev pub AreOwn : List Block → Type 0
  AreOwn bs = AllByRecursion IsOwn bs

  -- the texts have the segments from this one on
  abbrev pub AreNumbered : ℕ → List Text → Type 0
  AreNumbered first [] = Unit {0}
  AreNumbered first (t ∷ ts) = (segment_of blocks (number_at blocks t.spot) ≡ first) × AreNumbered (first + 1) ts

  numbered_front : (first : ℕ) (xs ys : List Text) → AreNumbered first (xs ++ ys) → AreNumbered first xs
  numbered_front first [] ys h = tt
  numbered_front first (x ∷ xs) ys h = (h.0, numbered_front (first + 1) xs ys h.1)

  numbered_back : (first : ℕ) (xs ys : List Text) → AreNumbered first (xs ++ ys) → AreNumbered (first + length xs) ys
  numbered_back first [] ys h =
      let same : first ≡ first + 0 = omega arith in
      subst (λ (n : ℕ). AreNumbered n ys) same h
  numbered_back first (x ∷ xs) ys h =
      let same : first + 1 + length xs ≡ first + length (x ∷ xs) = omega arith in
      subst (λ (n : ℕ). AreNumbered n ys) same (numbered_back (first + 1) xs ys h.1)

  -- what stands in these blocks stands in this segment
  abbrev pub Stands : List Spot → ℕ → Type 0
  Stands outer k = segment_among blocks (map (number_at blocks) outer) ≡ k

  -- so does what stands within a block
  pub stands_within : (b : Block) → IsOwn b → Stands (b.spot ∷ b.outer) (segment_at b)
  stands_within b own = ap (λ (z : Block). segment_among blocks (number_at blocks b.spot ∷ map (number_at blocks) z.outer)) (sym own)

  -- a block that is no procedure's stands in the segment of the block around it
  pub stands_plain : (b : Block) (k : ℕ) → is_procedure b ≡ false → IsOwn b → Stands b.outer k → segment_at b ≡ k
  stands_plain b k plain own stands =
      let n = number_at blocks b.spot in
      ap (λ (z : Block). if is_procedure z then procedures_before blocks n + 1 else segment_among blocks (map (number_at blocks) z.outer)) own
      ∙ ap (λ (t : Bool). if t then procedures_before blocks n + 1 else segment_among blocks (map (number_at blocks) b.outer)) plain ∙ stands

  -- These blocks have in this segment these labels, and else those of these texts, the first of which has that number.
  abbrev pub HaveEntries : ℕ → ℕ → List DeclaredLabel → List Text → List Block → Type 0
  HaveEntries own first es ts bs = (k : ℕ) → entries_among k bs ≡ chosen (nat_eq own k) es ++ entries_numbered first ts k

  have_both : (own first : ℕ) (es fs : List DeclaredLabel) (xs ys : List Text) (bs cs : List Block) → own < first → HaveEntries own first es xs bs → HaveEntries own (first + length xs) fs ys cs →
      HaveEntries own first (es ++ fs) (xs ++ ys) (bs ++ cs)
  have_both own first es fs xs ys bs cs h f g k = by (nat_eq own k) refl
    where
      both : entries_among k (bs ++ cs) ≡ (chosen (nat_eq own k) es ++ entries_numbered first xs k) ++ (chosen (nat_eq own k) fs ++ entries_numbered (first + length xs) ys k)
      both = among_both k bs cs ∙ ap (λ (z : List DeclaredLabel). z ++ entries_among k cs) (f k) ∙ ap (λ (z : List DeclaredLabel). (chosen (nat_eq own k) es ++ entries_numbered first xs k) ++ z) (g k)

      by : (t : Bool) → nat_eq own k ≡ t → entries_among k (bs ++ cs) ≡ chosen (nat_eq own k) (es ++ fs) ++ entries_numbered first (xs ++ ys) k
      by true e =
          let same : own ≡ k = grind (arith, nat_tests) in
          let less : k < first = omega (arith, same, h) in
          let none = numbered_none first xs k less in
          let none' = numbered_none (first + length xs) ys k (omega (arith, less)) in
          let none'' = numbered_none first (xs ++ ys) k less in
          both
          ∙ ap (λ (z : List DeclaredLabel). (chosen (nat_eq own k) es ++ z) ++ (chosen (nat_eq own k) fs ++ entries_numbered (first + length xs) ys k)) none
          ∙ ap (λ (z : List DeclaredLabel). (chosen (nat_eq own k) es ++ []) ++ (chosen (nat_eq own k) fs ++ z)) none'
          ∙ ap (λ (t : Bool). (chosen t es ++ []) ++ (chosen t fs ++ [])) e
          ∙ ap (λ (z : List DeclaredLabel). z ++ (fs ++ [])) (append-nil es)
          ∙ sym (append_assoc es fs [])
          ∙ ap (λ (t : Bool). chosen t (es ++ fs) ++ []) (sym e)
          ∙ ap (λ (z : List DeclaredLabel). chosen (nat_eq own k) (es ++ fs) ++ z) (sym none'')
      by false e =
          both
          ∙ ap (λ (t : Bool). (chosen t es ++ entries_numbered first xs k) ++ (chosen t fs ++ entries_numbered (first + length xs) ys k)) e
          ∙ sym (numbered_both first xs ys k)
          ∙ ap (λ (t : Bool). chosen t (es ++ fs) ++ entries_numbered first (xs ++ ys) k) (sym e)

  have_none : (own first : ℕ) → HaveEntries own first [] [] []
  have_none own first k = by (nat_eq own k)
    where
      by : (t : Bool) → [] ≡ chosen t [] ++ []
      by true = refl
      by false = refl

  -- a block of the segment comes before
  pub have_block : (b : Block) (own first : ℕ) (es : List DeclaredLabel) (ts : List Text) (bs : List Block) → segment_at b ≡ own → HaveEntries own first es ts bs → HaveEntries own first (entries_by b ++ es) ts (b ∷ bs)
  have_block b own first es ts bs at f k =
      ap (λ (n : ℕ). chosen (nat_eq n k) (entries_by b) ++ entries_among k bs) at ∙ ap (λ (z : List DeclaredLabel). chosen (nat_eq own k) (entries_by b) ++ z) (f k)
      ∙ by (nat_eq own k)
    where
      by : (t : Bool) → chosen t (entries_by b) ++ (chosen t es ++ entries_numbered first ts k) ≡ chosen t (entries_by b ++ es) ++ entries_numbered first ts k
      by true = sym (append_assoc (entries_by b) es (entries_numbered first ts k))
      by false = refl

  -- a text of the next segment, with what stands in it
  have_text : (own first : ℕ) (t : Text) (es : List DeclaredLabel) (ts : List Text) (bs : List Block) → own < first → entries_in_text t ≡ es → HaveEntries first (first + 1) es ts bs → HaveEntries own first [] (t ∷ ts) bs
  have_text own first t es ts bs h same f k =
      f k ∙ ap (λ (z : List DeclaredLabel). chosen (nat_eq first k) z ++ entries_numbered (first + 1) ts k) (sym same) ∙ by (nat_eq own k)
    where
      by : (b : Bool) → chosen (nat_eq first k) (entries_in_text t) ++ entries_numbered (first + 1) ts k
          ≡ chosen b [] ++ (chosen (nat_eq first k) (entries_in_text t) ++ entries_numbered (first + 1) ts k)
      by true = refl
      by false = refl

  -- what stands in a body
  body_both : (ds : PDecls) (ss : PStmts) (outer : List Spot) (level own first : ℕ) → own < first → AreOwn (blocks_in_decls ds outer ++ blocks_in_stmts ss outer) →
      AreNumbered first (texts_in_decls ds level ++ texts_in_stmts ss level) →
      (AreOwn (blocks_in_decls ds outer) → AreNumbered first (texts_in_decls ds level) → HaveEntries own first [] (texts_in_decls ds level) (blocks_in_decls ds outer)) →
      (AreOwn (blocks_in_stmts ss outer) → AreNumbered (first + length (texts_in_decls ds level)) (texts_in_stmts ss level) →
      HaveEntries own (first + length (texts_in_decls ds level)) (entries_in_stmts level ss) (texts_in_stmts ss level) (blocks_in_stmts ss outer)) →
      HaveEntries own first (entries_in_stmts level ss) (texts_in_decls ds level ++ texts_in_stmts ss level) (blocks_in_decls ds outer ++ blocks_in_stmts ss outer)
  body_both ds ss outer level own first h found numbered f g =
      let xs = texts_in_decls ds level in
      let ys = texts_in_stmts ss level in
      let bs = blocks_in_decls ds outer in
      let cs = blocks_in_stmts ss outer in
      have_both own first [] (entries_in_stmts level ss) xs ys bs cs h (f (each_front IsOwn bs cs found) (numbered_front first xs ys numbered))
      (g (each_back IsOwn bs cs found) (numbered_back first xs ys numbered))

  -- a procedure, and what is declared after it
  procedure_both : (heading : Heading) (s : PStmt) (ds : PDecls) (outer : List Spot) (level own first : ℕ) → level ≡ length outer + 1 → own < first →
      AreOwn (procedure_block heading s outer ∷ (blocks_of s of_procedure (heading.name.spot ∷ outer) ++ blocks_in_decls ds outer)) →
      AreNumbered first (procedure_text (level + 1) heading s ∷ (texts_of s of_procedure (level + 1) ++ texts_in_decls ds level)) →
      (level + 1 ≡ length (heading.name.spot ∷ outer) + 1 → first < first + 1 → Stands (heading.name.spot ∷ outer) first → AreOwn (blocks_of s of_procedure (heading.name.spot ∷ outer)) →
      AreNumbered (first + 1) (texts_of s of_procedure (level + 1)) →
      HaveEntries first (first + 1) (entries_in_stmts (level + 1) (stmts_of s)) (texts_of s of_procedure (level + 1)) (blocks_of s of_procedure (heading.name.spot ∷ outer))) →
      ((next : ℕ) → own < next → AreOwn (blocks_in_decls ds outer) → AreNumbered next (texts_in_decls ds level) → HaveEntries own next [] (texts_in_decls ds level) (blocks_in_decls ds outer)) →
      HaveEntries own first [] (procedure_text (level + 1) heading s ∷ (texts_of s of_procedure (level + 1) ++ texts_in_decls ds level))
      (procedure_block heading s outer ∷ (blocks_of s of_procedure (heading.name.spot ∷ outer) ++ blocks_in_decls ds outer))
  procedure_both heading s ds outer level own first e h found numbered f g =
      let b = procedure_block heading s outer in
      let t = procedure_text (level + 1) heading s in
      let xs = texts_of s of_procedure (level + 1) in
      let ys = texts_in_decls ds level in
      let bs = blocks_of s of_procedure (heading.name.spot ∷ outer) in
      let cs = blocks_in_decls ds outer in
      let here : IsOwn b = found.0 in
      let at : segment_at b ≡ first = numbered.0 in
      let within : Stands (heading.name.spot ∷ outer) first = stands_within b here ∙ at in
      let deep : level + 1 ≡ length (heading.name.spot ∷ outer) + 1 = omega (arith, e) in
      let high : level_of b ≡ level + 1 = omega (arith, e) in
      let same : entries_in_text t ≡ entries_by b ++ entries_in_stmts (level + 1) (stmts_of s) =
      ap (λ (l : ℕ). own_entries l (stmts_of s) (labels_in (decls_of s)) ++ entries_in_stmts (level + 1) (stmts_of s)) (sym high) in
      let inside = have_block b first (first + 1) (entries_in_stmts (level + 1) (stmts_of s)) xs bs at
      (f deep (omega arith) within (each_front IsOwn bs cs found.1) (numbered_front (first + 1) xs ys numbered.1)) in
      let many : first + 1 + length xs ≡ first + length (t ∷ xs) = omega arith in
      have_both own first [] [] (t ∷ xs) ys (b ∷ bs) cs h (have_text own first t (entries_by b ++ entries_in_stmts (level + 1) (stmts_of s)) xs (b ∷ bs) h same inside)
      (g (first + length (t ∷ xs)) (omega (arith, h)) (each_back IsOwn bs cs found.1) (subst (λ (n : ℕ). AreNumbered n ys) many (numbered_back (first + 1) xs ys numbered.1)))

  mutual
    pub stmt_has : (s : PStmt) (outer : List Spot) (level own first : ℕ) → level ≡ length outer + 1 → own < first → Stands outer own → AreOwn (blocks_of s of_statement outer) →
        AreNumbered first (texts_of s of_statement level) → HaveEntries own first (entries_in_stmt level s) (texts_of s of_statement level) (blocks_of s of_statement outer)
    stmt_has (tree.label n s) outer level own first e h stands found numbered = stmt_has s outer level own first e h stands found numbered
    stmt_has (tree.block (tree.body spot tree.no_decls ss)) outer level own first e h stands found numbered = stmts_have ss outer level own first e h stands found numbered
    stmt_has (tree.block (tree.body spot (tree.decls d ds) ss)) outer level own first e h stands found numbered =
        let b : Block = record { spot = spot; outer = outer; name = []; parameters = []; result = None; decls = tree.decls d ds; stmts = ss } in
        let at : segment_at b ≡ own = stands_plain b own refl found.0 stands in
        let within : Stands (spot ∷ outer) own = stands_within b found.0 ∙ at in
        let deep : level + 1 ≡ length (spot ∷ outer) + 1 = omega (arith, e) in
        let high : level_of b ≡ level + 1 = omega (arith, e) in
        let inside = body_both (tree.decls d ds) ss (spot ∷ outer) (level + 1) own first h found.1 numbered
        (λ there counted. decls_have (tree.decls d ds) (spot ∷ outer) (level + 1) own first deep h within there counted)
        (λ there counted. stmts_have ss (spot ∷ outer) (level + 1) own (first + length (texts_in_decls (tree.decls d ds) (level + 1))) deep (omega (arith, h)) within there counted) in
        let block = have_block b own first (entries_in_stmts (level + 1) ss) (texts_in_decls (tree.decls d ds) (level + 1) ++ texts_in_stmts ss (level + 1))
        (blocks_in_decls (tree.decls d ds) (spot ∷ outer) ++ blocks_in_stmts ss (spot ∷ outer)) at inside in
        subst (λ (l : ℕ). HaveEntries own first (own_entries l ss (labels_in (tree.decls d ds)) ++ entries_in_stmts (level + 1) ss)
        (texts_in_decls (tree.decls d ds) (level + 1) ++ texts_in_stmts ss (level + 1)) (b ∷ (blocks_in_decls (tree.decls d ds) (spot ∷ outer) ++ blocks_in_stmts ss (spot ∷ outer)))) high block
    stmt_has (tree.if_then c x) outer level own first e h stands found numbered = stmt_has x outer level own first e h stands found numbered
    stmt_has (tree.if_else c x y) outer level own first e h stands found numbered =
        let xs = texts_of x of_statement level in
        let ys = texts_of y of_statement level in
        let bs = blocks_of x of_statement outer in
        let cs = blocks_of y of_statement outer in
        have_both own first (entries_in_stmt level x) (entries_in_stmt level y) xs ys bs cs h
        (stmt_has x outer level own first e h stands (each_front IsOwn bs cs found) (numbered_front first xs ys numbered))
        (stmt_has y outer level own (first + length xs) e (omega (arith, h)) stands (each_back IsOwn bs cs found) (numbered_back first xs ys numbered))
    stmt_has (tree.while c b) outer level own first e h stands found numbered = stmt_has b outer level own first e h stands found numbered
    stmt_has (tree.until b c) outer level own first e h stands found numbered = stmt_has b outer level own first e h stands found numbered
    stmt_has (tree.for v a s l b) outer level own first e h stands found numbered = stmt_has b outer level own first e h stands found numbered
    stmt_has (tree.thru n b) outer level own first e h stands found numbered = stmt_has b outer level own first e h stands found numbered
    stmt_has (tree.case n ss) outer level own first e h stands found numbered = stmts_have ss outer level own first e h stands found numbered
    stmt_has s outer level own first e h stands found numbered = have_none own first

    pub stmts_have : (ss : PStmts) (outer : List Spot) (level own first : ℕ) → level ≡ length outer + 1 → own < first → Stands outer own → AreOwn (blocks_in_stmts ss outer) →
        AreNumbered first (texts_in_stmts ss level) → HaveEntries own first (entries_in_stmts level ss) (texts_in_stmts ss level) (blocks_in_stmts ss outer)
    stmts_have tree.no_stmts outer level own first e h stands found numbered = have_none own first
    stmts_have (tree.stmts s ss) outer level own first e h stands found numbered =
        let xs = texts_of s of_statement level in
        let ys = texts_in_stmts ss level in
        let bs = blocks_of s of_statement outer in
        let cs = blocks_in_stmts ss outer in
        have_both own first (entries_in_stmt level s) (entries_in_stmts level ss) xs ys bs cs h
        (stmt_has s outer level own first e h stands (each_front IsOwn bs cs found) (numbered_front first xs ys numbered))
        (stmts_have ss outer level own (first + length xs) e (omega (arith, h)) stands (each_back IsOwn bs cs found) (numbered_back first xs ys numbered))

    -- the procedures of declarations have texts of their own
    pub decls_have : (ds : PDecls) (outer : List Spot) (level own first : ℕ) → level ≡ length outer + 1 → own < first → Stands outer own → AreOwn (blocks_in_decls ds outer) →
        AreNumbered first (texts_in_decls ds level) → HaveEntries own first [] (texts_in_decls ds level) (blocks_in_decls ds outer)
    decls_have tree.no_decls outer level own first e h stands found numbered = have_none own first
    decls_have (tree.decls (tree.procedure heading (tree.block (tree.body spot inner ss))) ds) outer level own first e h stands found numbered =
        procedure_both heading (tree.block (tree.body spot inner ss)) ds outer level own first e h found numbered
        (λ deep less within there counted.
        body_both inner ss (heading.name.spot ∷ outer) (level + 1) first (first + 1) less there counted
        (λ there' counted'. decls_have inner (heading.name.spot ∷ outer) (level + 1) first (first + 1) deep less within there' counted')
        (λ there' counted'. stmts_have ss (heading.name.spot ∷ outer) (level + 1) first (first + 1 + length (texts_in_decls inner (level + 1))) deep (omega (arith, less)) within there' counted'))
        (λ next less there counted. decls_have ds outer level own next e less stands there counted)
    decls_have (tree.decls (tree.procedure heading s) ds) outer level own first e h stands found numbered =
        procedure_both heading s ds outer level own first e h found numbered
        (λ deep less within there counted.
        subst (λ (es : List DeclaredLabel). HaveEntries first (first + 1) es (texts_of s of_procedure (level + 1)) (blocks_of s of_procedure (heading.name.spot ∷ outer)))
        (sym (append-nil (entries_in_stmt (level + 1) s))) (stmt_has s (heading.name.spot ∷ outer) (level + 1) first (first + 1) deep less within there counted))
        (λ next less there counted. decls_have ds outer level own next e less stands there counted)
    decls_have (tree.decls d ds) outer level own first e h stands found numbered = decls_have ds outer level own first e h stands found numbered

  pub body_has : (ds : PDecls) (ss : PStmts) (outer : List Spot) (level own first : ℕ) → level ≡ length outer + 1 → own < first → Stands outer own → AreOwn (blocks_in_decls ds outer ++ blocks_in_stmts ss outer) →
      AreNumbered first (texts_in_decls ds level ++ texts_in_stmts ss level) →
      HaveEntries own first (entries_in_stmts level ss) (texts_in_decls ds level ++ texts_in_stmts ss level) (blocks_in_decls ds outer ++ blocks_in_stmts ss outer)
  body_has ds ss outer level own first e h stands found numbered =
      body_both ds ss outer level own first h found numbered (λ there counted. decls_have ds outer level own first e h stands there counted)
      (λ there counted. stmts_have ss outer level own (first + length (texts_in_decls ds level)) e (omega (arith, h)) stands there counted)
