use Rattle.pr_tool_laws.proofs.Kept.{compiled_bytes, bytes_after}
use Rattle.pr_tool_laws.proofs.written.bytes_law.Goals as goal

pub returns : goal.returns
returns c = record { compiled = compiled_bytes; after = bytes_after }
