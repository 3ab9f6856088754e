-- A shown register takes two bytes, and its divisor ten behind them.
use Rattle.std.proofs.Common.{◌≡◌, ℕ, ◌+◌, ◌≤◌, List, [], ◌∷◌, length, ◌∙◌, arith}
use Rattle.run.specs.Bytes.{divisor_bytes}
use Rattle.run.proofs.Buffers.{overwritten-more}
use Rattle.run.proofs.output.Output.write.Goals as goal

pub returns-in-Shown-clause-bytes : goal.returns-in-Shown-clause-bytes
returns-in-Shown-clause-bytes c =
    let front : List ℕ = 16 ∷ c.in-Shown.register ∷ [] in
    let body : c.divisor_bytes.result ≡ divisor_bytes c.in-Shown.d = c.divisor_bytes.ensures in
    let fits : c.args.self.now.written + 12 ≤ length c.args.self.now.bytes.now = rw c.in-Shown.is at c.requires in
    rw c.in-Shown.is
    (c.put-in-Shown.ensures.bytes
    ∙ (rw (c.put.ensures.bytes, c.put.ensures.place, body)
    (overwritten-more c.args.self.now.bytes.now front (divisor_bytes c.in-Shown.d) c.args.self.now.written (omega arith))))
