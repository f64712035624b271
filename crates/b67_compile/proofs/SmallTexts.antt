-- The blocks of a program's texts have levels that the machine has, and a text has no more labels than tokens.
use Rattle.std.proofs.Common.{arith, ◌≡◌, ℕ, ◌+◌, ◌≤◌, List, [], ◌∷◌, ◌++◌, length, refl, length-append}
use Rattle.std.proofs.lemmas.List.{length-map}
use Rattle.std.specs.List.{AllByRecursion}
use Rattle.algol_tree.specs.declared.token.Spot.{Spot}
use Rattle.algol_tree.specs.declared.tree.Heading.{Heading}
use Rattle.algol_tree.specs.declared.tree.Named.{Named}
use Rattle.algol_tree.specs.Blocks.{Block, of_statement, of_procedure, blocks_of, blocks_in_stmts, blocks_in_decls, decls_of, stmts_of}
use Rattle.algol_tree.specs.Cells.{level_of}
use Rattle.algol_tree.specs.Counts.{stmt_tokens, stmts_tokens, decls_tokens}
use Rattle.algol_tree.specs.Plain as tree
use Rattle.algol_tree.specs.Plain.{PStmt, PStmts, PDecls, PBody}
use Rattle.b67_ops.specs.declared.TheConstants.{MOST_LEVEL, OUTER_LEVEL}
use Rattle.b67_templates.specs.Labels.{labels_in}
use Rattle.b67_emit_text.specs.Entries.{own_entries, entries_in_stmt, entries_in_stmts, AreLow, AllLow}
use Rattle.b67_emit_text.specs.Texts.{Text, procedure_text, texts, texts_of, texts_in_stmts, texts_in_decls, HaveLevels, HaveLevelsStmts, HaveLevelsDecls, HaveLevelsBody}
use Rattle.b67_list.proofs.Lists.{each_back, each_both, each_front}
use Rattle.b67_compile.proofs.Entries.{entries_in_text}

-- ---- levels

abbrev pub IsLow : Block → Type 0
IsLow b = level_of b ≤ MOST_LEVEL

mutual
  stmt_levels : (s : PStmt) (outer : List Spot) (level : ℕ) → level ≡ length outer + 1 → level ≤ MOST_LEVEL → AllByRecursion IsLow (blocks_of s of_statement outer) → HaveLevels s of_statement level
  stmt_levels (tree.label n s) outer level e low h = stmt_levels s outer level e low h
  stmt_levels (tree.block (tree.body spot tree.no_decls ss)) outer level e low h = (low, (tt, stmts_levels ss outer level e low h))
  stmt_levels (tree.block (tree.body spot (tree.decls d ds) ss)) outer level e low h =
      let own : level + 1 ≤ MOST_LEVEL = omega (arith, e, h.0) in
      let deep : level + 1 ≡ length (spot ∷ outer) + 1 = omega (arith, e) in
      let bs = blocks_in_decls (tree.decls d ds) (spot ∷ outer) in
      let cs = blocks_in_stmts ss (spot ∷ outer) in
      (own, (decls_levels (tree.decls d ds) (spot ∷ outer) (level + 1) deep own (each_front IsLow bs cs h.1), stmts_levels ss (spot ∷ outer) (level + 1) deep own (each_back IsLow bs cs h.1)))
  stmt_levels (tree.if_then c x) outer level e low h = stmt_levels x outer level e low h
  stmt_levels (tree.if_else c x y) outer level e low h =
      (stmt_levels x outer level e low (each_front IsLow (blocks_of x of_statement outer) (blocks_of y of_statement outer) h), stmt_levels y outer level e low (each_back IsLow (blocks_of x of_statement outer) (blocks_of y of_statement outer) h))
  stmt_levels (tree.while c b) outer level e low h = stmt_levels b outer level e low h
  stmt_levels (tree.until b c) outer level e low h = stmt_levels b outer level e low h
  stmt_levels (tree.for v a s l b) outer level e low h = stmt_levels b outer level e low h
  stmt_levels (tree.thru n b) outer level e low h = stmt_levels b outer level e low h
  stmt_levels (tree.case n ss) outer level e low h = stmts_levels ss outer level e low h
  stmt_levels s outer level e low h = tt

  stmts_levels : (ss : PStmts) (outer : List Spot) (level : ℕ) → level ≡ length outer + 1 → level ≤ MOST_LEVEL → AllByRecursion IsLow (blocks_in_stmts ss outer) → HaveLevelsStmts ss level
  stmts_levels tree.no_stmts outer level e low h = tt
  stmts_levels (tree.stmts s ss) outer level e low h =
      (stmt_levels s outer level e low (each_front IsLow (blocks_of s of_statement outer) (blocks_in_stmts ss outer) h), stmts_levels ss outer level e low (each_back IsLow (blocks_of s of_statement outer) (blocks_in_stmts ss outer) h))

  decls_levels : (ds : PDecls) (outer : List Spot) (level : ℕ) → level ≡ length outer + 1 → level ≤ MOST_LEVEL → AllByRecursion IsLow (blocks_in_decls ds outer) → HaveLevelsDecls ds level
  decls_levels tree.no_decls outer level e low h = tt
  decls_levels (tree.decls (tree.procedure heading (tree.block (tree.body spot inner ss))) ds) outer level e low h =
      let own : level + 1 ≤ MOST_LEVEL = omega (arith, e, h.0) in
      let deep : level + 1 ≡ length (heading.name.spot ∷ outer) + 1 = omega (arith, e) in
      let bs = blocks_in_decls inner (heading.name.spot ∷ outer) in
      let cs = blocks_in_stmts ss (heading.name.spot ∷ outer) in
      let first = each_front IsLow (bs ++ cs) (blocks_in_decls ds outer) h.1 in (
        (own, (own, (decls_levels inner (heading.name.spot ∷ outer) (level + 1) deep own (each_front IsLow bs cs first), stmts_levels ss (heading.name.spot ∷ outer) (level + 1) deep own (each_back IsLow bs cs first)))),
        decls_levels ds outer level e low (each_back IsLow (bs ++ cs) (blocks_in_decls ds outer) h.1),
      )
  decls_levels (tree.decls (tree.procedure heading s) ds) outer level e low h =
      let own : level + 1 ≤ MOST_LEVEL = omega (arith, e, h.0) in
      let bs = blocks_of s of_procedure (heading.name.spot ∷ outer) in
      let cs = blocks_in_decls ds outer in (
        (own, stmt_levels s (heading.name.spot ∷ outer) (level + 1) (omega (arith, e)) own (each_front IsLow bs cs h.1)),
        decls_levels ds outer level e low (each_back IsLow bs cs h.1),
      )
  decls_levels (tree.decls d ds) outer level e low h = (tt, decls_levels ds outer level e low h)

pub program_levels : (spot : Spot) (ds : PDecls) (ss : PStmts) → AllByRecursion IsLow (blocks_in_decls ds (spot ∷ []) ++ blocks_in_stmts ss (spot ∷ [])) → HaveLevelsBody (tree.body spot ds ss) OUTER_LEVEL
program_levels spot ds ss h =
    let bs = blocks_in_decls ds (spot ∷ []) in
    let cs = blocks_in_stmts ss (spot ∷ []) in
    let low : OUTER_LEVEL ≤ MOST_LEVEL = omega arith in
    (decls_levels ds (spot ∷ []) OUTER_LEVEL refl low (each_front IsLow bs cs h), stmts_levels ss (spot ∷ []) OUTER_LEVEL refl low (each_back IsLow bs cs h))

-- ---- .. of the texts

mutual
  stmt_low : (s : PStmt) (level : ℕ) → HaveLevels s of_statement level → AreLow level s
  stmt_low (tree.label n s) level h = stmt_low s level h
  stmt_low (tree.block (tree.body spot tree.no_decls ss)) level h = stmts_low ss level h.1.1
  stmt_low (tree.block (tree.body spot (tree.decls d ds) ss)) level h = (h.0, stmts_low ss (level + 1) h.1.1)
  stmt_low (tree.if_then c x) level h = stmt_low x level h
  stmt_low (tree.if_else c x y) level h = (stmt_low x level h.0, stmt_low y level h.1)
  stmt_low (tree.while c b) level h = stmt_low b level h
  stmt_low (tree.until b c) level h = stmt_low b level h
  stmt_low (tree.for v a s l b) level h = stmt_low b level h
  stmt_low (tree.thru n b) level h = stmt_low b level h
  stmt_low (tree.case n ss) level h = stmts_low ss level h
  stmt_low s level h = tt

  stmts_low : (ss : PStmts) (level : ℕ) → HaveLevelsStmts ss level → AllLow level ss
  stmts_low tree.no_stmts level h = tt
  stmts_low (tree.stmts s ss) level h = (stmt_low s level h.0, stmts_low ss level h.1)

begun_low : (s : PStmt) (level : ℕ) → HaveLevels s of_procedure level → AllLow level (stmts_of s)
begun_low (tree.block (tree.body spot ds ss)) level h = stmts_low ss level h.1.1
begun_low s level h = (stmt_low s level h, tt)

-- ---- how many labels

own_many : (level : ℕ) (ss : PStmts) (ns : List Named) → length (own_entries level ss ns) ≡ length ns
own_many level ss ns = length-map ns _

labels_few : (ds : PDecls) → length (labels_in ds) ≤ decls_tokens ds
labels_few tree.no_decls = omega arith
labels_few (tree.decls (tree.labels ns) ds) = omega (arith, labels_few ds, length-append ns (labels_in ds))
labels_few (tree.decls d ds) = omega (arith, labels_few ds)

mutual
  stmt_few : (s : PStmt) (level : ℕ) → length (entries_in_stmt level s) ≤ stmt_tokens s
  stmt_few (tree.label n s) level = omega (arith, stmt_few s level)
  stmt_few (tree.block (tree.body spot tree.no_decls ss)) level = omega (arith, stmts_few ss level)
  stmt_few (tree.block (tree.body spot (tree.decls d ds) ss)) level =
      omega (
        arith,
        stmts_few ss (level + 1),
        labels_few (tree.decls d ds),
        own_many (level + 1) ss (labels_in (tree.decls d ds)),
        length-append (own_entries (level + 1) ss (labels_in (tree.decls d ds))) (entries_in_stmts (level + 1) ss),
      )
  stmt_few (tree.if_then c x) level = omega (arith, stmt_few x level)
  stmt_few (tree.if_else c x y) level = omega (arith, stmt_few x level, stmt_few y level, length-append (entries_in_stmt level x) (entries_in_stmt level y))
  stmt_few (tree.while c b) level = omega (arith, stmt_few b level)
  stmt_few (tree.until b c) level = omega (arith, stmt_few b level)
  stmt_few (tree.for v a s l b) level = omega (arith, stmt_few b level)
  stmt_few (tree.thru n b) level = omega (arith, stmt_few b level)
  stmt_few (tree.case n ss) level = omega (arith, stmts_few ss level)
  stmt_few s level = omega arith

  stmts_few : (ss : PStmts) (level : ℕ) → length (entries_in_stmts level ss) ≤ stmts_tokens ss
  stmts_few tree.no_stmts level = omega arith
  stmts_few (tree.stmts s ss) level = omega (arith, stmt_few s level, stmts_few ss level, length-append (entries_in_stmt level s) (entries_in_stmts level ss))

text_few : (level : ℕ) (ds : PDecls) (ss : PStmts) → length (own_entries level ss (labels_in ds) ++ entries_in_stmts level ss) ≤ decls_tokens ds + stmts_tokens ss
text_few level ds ss =
    omega (arith, labels_few ds, stmts_few ss level, own_many level ss (labels_in ds), length-append (own_entries level ss (labels_in ds)) (entries_in_stmts level ss))

begun_few : (s : PStmt) (level : ℕ) → length (own_entries level (stmts_of s) (labels_in (decls_of s)) ++ entries_in_stmts level (stmts_of s)) ≤ stmt_tokens s
begun_few (tree.block (tree.body spot ds ss)) level = omega (arith, text_few level ds ss)
begun_few s level = omega (arith, stmt_few s level, length-append (entries_in_stmt level s) [])

-- ---- all texts

-- the levels of a text's blocks are low, and it has no more labels than tokens
abbrev pub IsSlight : Text → Type 0
IsSlight t = AllLow t.level t.stmts × (length (entries_in_text t) ≤ t.tokens)

procedure_slight : (heading : Heading) (s : PStmt) (level : ℕ) → HaveLevels s of_procedure (level + 1) → IsSlight (procedure_text (level + 1) heading s)
procedure_slight heading s level h =
    let few : length (own_entries (level + 1) (stmts_of s) (labels_in (decls_of s)) ++ entries_in_stmts (level + 1) (stmts_of s)) ≤ stmt_tokens s = begun_few s (level + 1) in
    (begun_low s (level + 1) h, omega (arith, few))

mutual
  stmt_slight : (s : PStmt) (level : ℕ) → HaveLevels s of_statement level → AllByRecursion IsSlight (texts_of s of_statement level)
  stmt_slight (tree.label n s) level h = stmt_slight s level h
  stmt_slight (tree.block (tree.body spot tree.no_decls ss)) level h = stmts_slight ss level h.1.1
  stmt_slight (tree.block (tree.body spot (tree.decls d ds) ss)) level h =
      each_both IsSlight (texts_in_decls (tree.decls d ds) (level + 1)) (texts_in_stmts ss (level + 1)) (decls_slight (tree.decls d ds) (level + 1) h.1.0) (stmts_slight ss (level + 1) h.1.1)
  stmt_slight (tree.if_then c x) level h = stmt_slight x level h
  stmt_slight (tree.if_else c x y) level h = each_both IsSlight (texts_of x of_statement level) (texts_of y of_statement level) (stmt_slight x level h.0) (stmt_slight y level h.1)
  stmt_slight (tree.while c b) level h = stmt_slight b level h
  stmt_slight (tree.until b c) level h = stmt_slight b level h
  stmt_slight (tree.for v a s l b) level h = stmt_slight b level h
  stmt_slight (tree.thru n b) level h = stmt_slight b level h
  stmt_slight (tree.case n ss) level h = stmts_slight ss level h
  stmt_slight s level h = tt

  stmts_slight : (ss : PStmts) (level : ℕ) → HaveLevelsStmts ss level → AllByRecursion IsSlight (texts_in_stmts ss level)
  stmts_slight tree.no_stmts level h = tt
  stmts_slight (tree.stmts s ss) level h = each_both IsSlight (texts_of s of_statement level) (texts_in_stmts ss level) (stmt_slight s level h.0) (stmts_slight ss level h.1)

  decls_slight : (ds : PDecls) (level : ℕ) → HaveLevelsDecls ds level → AllByRecursion IsSlight (texts_in_decls ds level)
  decls_slight tree.no_decls level h = tt
  decls_slight (tree.decls (tree.procedure heading (tree.block (tree.body spot inner ss))) ds) level h =
      let xs = texts_in_decls inner (level + 1) in
      let ys = texts_in_stmts ss (level + 1) in (
        procedure_slight heading (tree.block (tree.body spot inner ss)) level h.0.1,
        each_both IsSlight (xs ++ ys) (texts_in_decls ds level) (each_both IsSlight xs ys (decls_slight inner (level + 1) h.0.1.1.0) (stmts_slight ss (level + 1) h.0.1.1.1)) (decls_slight ds level h.1),
      )
  decls_slight (tree.decls (tree.procedure heading s) ds) level h = (
    procedure_slight heading s level h.0.1,
    each_both IsSlight (texts_of s of_procedure (level + 1)) (texts_in_decls ds level) (stmt_slight s (level + 1) h.0.1) (decls_slight ds level h.1),
  )
  decls_slight (tree.decls d ds) level h = decls_slight ds level h.1

pub texts_slight : (spot : Spot) (ds : PDecls) (ss : PStmts) → HaveLevelsBody (tree.body spot ds ss) OUTER_LEVEL → AllByRecursion IsSlight (texts (tree.body spot ds ss))
texts_slight spot ds ss h =
    let few = text_few OUTER_LEVEL ds ss in (
      (stmts_low ss OUTER_LEVEL h.1, omega (arith, few)),
      each_both IsSlight (texts_in_decls ds OUTER_LEVEL) (texts_in_stmts ss OUTER_LEVEL) (decls_slight ds OUTER_LEVEL h.0) (stmts_slight ss OUTER_LEVEL h.1),
    )
