use Rattle.b67_asm_writer.proofs.Law.{again, assembles, exactly}
use Rattle.b67_asm_writer.proofs.sources_are_assembled.Goals as goal

pub returns : goal.returns
returns c = record { sources = assembles; again = again; exactly = exactly }
