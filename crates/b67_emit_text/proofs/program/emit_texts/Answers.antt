use Rattle.std.proofs.Common.{ap, arith, refl, sym, ◌∙◌, ◌+◌, ◌≡◌, List, [], ◌∷◌, ◌++◌, length, take, subst, length-append}
use Rattle.std.proofs.lemmas.List.{append-nil, map-append}
use Rattle.algol_tree.specs.declared.token.Spot.{Spot}
use Rattle.algol_tree.specs.Image.{body}
use Rattle.b67_faithful.specs.Lines.{formats_for, stmts_lines}
use Rattle.b67_emit_stmt.specs.declared.draft.Label.{Label}
use Rattle.b67_emit_stmt.specs.Drafts.{spots_of}
use Rattle.b67_emit_stmt.specs.Labels.{label_spots_in}
use Rattle.b67_emit_stmt.specs.Places.{Later}
use Rattle.b67_emit_text.specs.Entries.{label_place_in}
use Rattle.b67_emit_text.specs.Texts.{outer_text, Text, text_of_procedure, text_spots, texts, texts_lines}
use Rattle.b67_emit_stmt.proofs.Added.{both_added}
use Rattle.b67_emit_text.proofs.TextLines.{next_text_lines, next_text_spots}
use Rattle.b67_emit_text.proofs.TextProgram.{all_taken, behind, can_stand, first_stands, next_stands, number_few, places_few, stands_there, text_there}
use Rattle.b67_emit_text.proofs.TextStanding.{AllStand, agrees_parts, all_agree, all_coded, all_short}
use Rattle.b67_emit_text.proofs.program.emit_texts.Goals as goal

pub emit_outer-requires-clause-text : goal.emit_outer-requires-clause-text
emit_outer-requires-clause-text g c =
    let b = c.args.body.now in
    can_stand c.requires.due.0 c.args.names.now (body b) c.requires.due.1 0 (outer_text (body b)) refl
    _ refl c.requires.places
    c.requires.few refl

pub procedures-init : goal.procedures-init
procedures-init g c =
    let b = c.args.body.now in
    let first = c.in_ok-first.ensures in
    let pushed = c.in_ok-push.ensures.items in
    let one : length c.push.new.self.items ≡ 1 = omega (arith, ap length pushed, ap length c.new-segments.ensures.items, length-append c.new-segments.result.items (c.in_ok-first.first ∷ [])) in
    record {
      many = one;
      few = omega (arith, one, first.few);
      listed = first.listed;
      lines = first.lines ∙ ap formats_for (sym (append-nil (stmts_lines (outer_text (body b)).stmts)));
      stood = record {
        labels = first.code.labels;
        spots = first.code.spots ∙ sym (append-nil (label_spots_in (outer_text (body b)).stmts));
        stand = λ sc due all known.
            first_stands sc all c.push.new.self.items c.new-segments.result.items c.in_ok-first.first (outer_text (body b)) c.new-segments.ensures.items pushed
            (stands_there sc c.args.names.now (body b) due 0 (outer_text (body b)) refl
            _ refl c.requires.places
            c.requires.few refl all c.in_ok-first.first c.in_ok-first.formats.items first.code known first.short);
      };
    }

pub emit_procedure-requires-clause-text : goal.emit_procedure-requires-clause-text
emit_procedure-requires-clause-text g c =
    let b = c.args.body.now in
    let p = c.procedure-item.result in
    let there = behind (body b) c.procedures.procedure-index (text_of_procedure p)
    (text_there (body b) c.args.procedures.now c.requires.found c.procedures.procedure-index p c.procedures-test.true c.procedure-item.is) in
    let number_is : c.len.result ≡ c.procedures.procedure-index + 1 = omega (arith, c.len.ensures, c.procedures.segments.ok.0, c.procedures.invariant.many) in
    can_stand c.requires.due.0 c.args.names.now (body b) c.requires.due.1 (c.procedures.procedure-index + 1) (text_of_procedure p) there
    _ refl c.requires.places
    c.requires.few number_is

pub procedures-preserved : goal.procedures-preserved
procedures-preserved g c =
    let b = c.args.body.now in
    let p = c.procedure-item.result in
    let there = behind (body b) c.procedures.procedure-index (text_of_procedure p)
    (text_there (body b) c.args.procedures.now c.requires.found c.procedures.procedure-index p c.procedures-test.true c.procedure-item.is) in
    let number_is : c.len.result ≡ c.procedures.procedure-index + 1 = omega (arith, c.len.ensures, c.procedures.segments.ok.0, c.procedures.invariant.many) in
    let made = c.in_ok-segment.ensures in
    let so_far = c.procedures.invariant.stood in
    let pushed = c.in_ok-push-2.ensures.items in
    let one : length c.push-in-procedures.new.self.items ≡ length c.procedures.segments.items + 1 = omega (arith, ap length pushed, length-append c.procedures.segments.items (c.in_ok-segment.segment ∷ [])) in
    record {
      many = omega (arith, one, c.procedures.invariant.many);
      few = omega (arith, one, made.few, c.procedures.invariant.few);
      listed = made.listed c.procedures.invariant.listed;
      lines = both_added [] c.procedures.formats.items c.in_ok-segment.more.items (texts_lines (take (c.procedures.procedure-index + 1) (texts (body b)))) (stmts_lines (text_of_procedure p).stmts)
          (texts_lines (take (c.procedures.procedure-index + 1 + 1) (texts (body b)))) (next_text_lines (texts (body b)) (c.procedures.procedure-index + 1) (text_of_procedure p) there)
          c.procedures.invariant.lines made.lines;
      stood = record {
        labels = so_far.labels ++ made.code.labels;
        spots = map-append (λ (l : Label). l.spot) so_far.labels made.code.labels ∙ ap (λ (l : List Spot). l ++ spots_of made.code.labels) so_far.spots
            ∙ ap (λ (l : List Spot). text_spots (take (c.procedures.procedure-index + 1) (texts (body b))) ++ l) made.code.spots
            ∙ sym (next_text_spots (texts (body b)) (c.procedures.procedure-index + 1) (text_of_procedure p) there);
        stand = λ sc due all known.
            let parts = agrees_parts c.procedures.formats.items c.in_ok-segment.more.items so_far.labels made.code.labels all (formats_for (stmts_lines (text_of_procedure p).stmts), made.lines) known in
            next_stands sc all c.push-in-procedures.new.self.items c.procedures.segments.items c.in_ok-segment.segment (texts (body b)) (c.procedures.procedure-index + 1) (text_of_procedure p) there pushed
            (so_far.stand sc due all parts.0)
            (stands_there sc c.args.names.now (body b) due (c.procedures.procedure-index + 1) (text_of_procedure p) there
            _ refl c.requires.places
            c.requires.few number_is all c.in_ok-segment.segment c.in_ok-segment.more.items made.code parts.1 made.short);
      };
    }

pub returns-clause-code : goal.returns-clause-code
returns-clause-code g c =
    let b = c.args.body.now in
    let whole = all_taken (body b) c.args.procedures.now c.requires.found c.procedures.procedure-index (omega (arith, c.procedures-test.false)) in
    let so_far = c.procedures.invariant.stood in
    let all : Later = record { formats = c.procedures.formats.items; labels = label_place_in so_far.labels } in
    λ sc due.
    let A : List Text → Type 0 = λ ts. AllStand sc all c.procedures.segments.items ts in
    all_coded sc all c.procedures.segments.items (texts (body b))
    (subst A whole (so_far.stand sc due all (all_agree c.procedures.formats.items so_far.labels (texts (body b)) (so_far.spots ∙ ap text_spots whole) c.requires.once)))

pub returns-clause-short : goal.returns-clause-short
returns-clause-short g c =
    let b = c.args.body.now in
    let whole = all_taken (body b) c.args.procedures.now c.requires.found c.procedures.procedure-index (omega (arith, c.procedures-test.false)) in
    let so_far = c.procedures.invariant.stood in
    let all : Later = record { formats = c.procedures.formats.items; labels = label_place_in so_far.labels } in
    let sc = c.requires.due.0 in
    let A : List Text → Type 0 = λ ts. AllStand sc all c.procedures.segments.items ts in
    all_short sc all c.procedures.segments.items (texts (body b))
    (subst A whole (so_far.stand sc c.requires.due.1 all (all_agree c.procedures.formats.items so_far.labels (texts (body b)) (so_far.spots ∙ ap text_spots whole) c.requires.once)))

pub returns-clause-lines : goal.returns-clause-lines
returns-clause-lines g c =
    let b = c.args.body.now in
    let whole = all_taken (body b) c.args.procedures.now c.requires.found c.procedures.procedure-index (omega (arith, c.procedures-test.false)) in
    c.procedures.invariant.lines ∙ ap (λ (ts : List Text). formats_for (texts_lines ts)) whole

-- ---- what the calls require besides

pub emit_outer-requires-clause-near : goal.emit_outer-requires-clause-near
emit_outer-requires-clause-near g c = c.requires.near

pub emit_outer-requires-clause-inner : goal.emit_outer-requires-clause-inner
emit_outer-requires-clause-inner g c = c.requires.inner

pub emit_outer-requires-clause-many : goal.emit_outer-requires-clause-many
emit_outer-requires-clause-many g c = places_few (body c.args.body.now) c.args.places.now c.requires.places c.requires.few

pub emit_outer-requires-clause-segment : goal.emit_outer-requires-clause-segment
emit_outer-requires-clause-segment g c = refl

pub overflow_cast-known : goal.overflow_cast-known
overflow_cast-known g c =
    let few = number_few (body c.args.body.now) c.args.procedures.now c.requires.found c.requires.few c.procedures.procedure-index c.procedures-test.true in
    omega (arith, few, c.len.ensures, c.procedures.segments.ok.0, c.procedures.invariant.many)

pub emit_procedure-requires-clause-near : goal.emit_procedure-requires-clause-near
emit_procedure-requires-clause-near g c = c.requires.near

pub emit_procedure-requires-clause-inner : goal.emit_procedure-requires-clause-inner
emit_procedure-requires-clause-inner g c = c.requires.inner

pub emit_procedure-requires-clause-many : goal.emit_procedure-requires-clause-many
emit_procedure-requires-clause-many g c = places_few (body c.args.body.now) c.args.places.now c.requires.places c.requires.few

pub emit_procedure-requires-clause-segment : goal.emit_procedure-requires-clause-segment
emit_procedure-requires-clause-segment g c =
    let few = number_few (body c.args.body.now) c.args.procedures.now c.requires.found c.requires.few c.procedures.procedure-index c.procedures-test.true in
    omega (arith, few, c.len.ensures, c.procedures.segments.ok.0, c.procedures.invariant.many)

pub emit_procedure-requires-clause-formats : goal.emit_procedure-requires-clause-formats
emit_procedure-requires-clause-formats g c = omega (arith, c.procedures.invariant.few, c.len.ensures, c.procedures.segments.ok.0)

pub returns-clause-formats : goal.returns-clause-formats
returns-clause-formats g c = c.procedures.invariant.listed
