use Rattle.b67_asm_writer.proofs.Law.{assembles, is_source}
use Rattle.b67_asm_writer.proofs.source.Goals as goal

pub push_segments-requires : goal.push_segments-requires
push_segments-requires c = c.requires.listable.segments

pub returns-clause-written : goal.returns-clause-written
returns-clause-written c =
    is_source c.args.code.now c.new-text.result.items c.push_segments.new.text.items c.push_formats.new.text.items c.new-text.ensures.items c.in_ok-push_segments.ensures
    c.in_ok-push_formats.ensures

pub returns-clause-assembled : goal.returns-clause-assembled
returns-clause-assembled c =
    assembles c.args.code.now c.push_formats.new.text.items c.requires
    (is_source c.args.code.now c.new-text.result.items c.push_segments.new.text.items c.push_formats.new.text.items c.new-text.ensures.items c.in_ok-push_segments.ensures
    c.in_ok-push_formats.ensures)
