-- What is read at each pattern is what stands first on the sheet.
use Rattle.std.proofs.Common.{ℕ, List, refl, ap, ◌∙◌, arith}
use Rattle.std.proofs.lemmas.Result.{err_from_is_err_and}
use Rattle.run.specs.Records.{whole, modulus, square_root}
use Rattle.run.proofs.Reading.{after_bytes, read_bytes, read_parts, read_cut, read_end, read_short, read_unknown}
use Rattle.run.proofs.record.read.Goals as goal

pub returns-in-empty : goal.returns-in-empty
returns-in-empty c = read_end c.args.sheet.now (grind arith)

pub returns-in-1 : goal.returns-in-1
returns-in-1 c =
    let xs : List ℕ = c.args.sheet.now in
    ap (λ m. whole (modulus m) (after_bytes 2 xs)) c.from_le_bytes-in-1.ensures
    ∙ read_bytes 2 1 _ xs refl (grind arith) (grind arith) refl

pub returns-in-2 : goal.returns-in-2
returns-in-2 c = read_bytes 0 2 _ c.args.sheet.now refl (grind arith) (grind arith) refl

pub returns-in-3 : goal.returns-in-3
returns-in-3 c =
    let xs : List ℕ = c.args.sheet.now in
    ap (λ r. whole (square_root r) (after_bytes 2 xs)) c.from_le_bytes.ensures
    ∙ read_bytes 2 3 _ xs refl (grind arith) (grind arith) refl

pub returns-in_ok-body-in-4 : goal.returns-in_ok-body-in-4
returns-in_ok-body-in-4 c =
    let parts = c.in_ok-body-in-4.ensures in
    read_parts 0 4 _ c.args.sheet.now refl (grind arith) (grind arith) 10 _ _ refl (omega arith) parts.0 parts.1

pub returns-in_err-body-in-4 : goal.returns-in_err-body-in-4
returns-in_err-body-in-4 c =
    let cut = c.in_err-body-in-4.ensures in
    let left = err_from_is_err_and c.from_residual-in_err-body-in-4.result c.from_residual-in_err-body-in-4.ensures.1 in
    rw (left.1, left.2, cut.0) (read_cut 0 4 _ c.args.sheet.now refl (grind arith) (grind arith) 10 refl cut.1)

pub returns-in_ok-body-in-5 : goal.returns-in_ok-body-in-5
returns-in_ok-body-in-5 c =
    let parts = c.in_ok-body-in-5.ensures in
    read_parts 1 5 _ c.args.sheet.now refl (grind arith) (grind arith) 10 _ _ refl (omega arith) parts.0 parts.1

pub returns-in_err-body-in-5 : goal.returns-in_err-body-in-5
returns-in_err-body-in-5 c =
    let cut = c.in_err-body-in-5.ensures in
    let left = err_from_is_err_and c.from_residual.result c.from_residual.ensures.1 in
    rw (left.1, left.2, cut.0) (read_cut 1 5 _ c.args.sheet.now refl (grind arith) (grind arith) 10 refl cut.1)

pub returns-in-6 : goal.returns-in-6
returns-in-6 c = read_bytes 3 6 _ c.args.sheet.now refl (grind arith) (grind arith) refl

pub returns-in-7 : goal.returns-in-7
returns-in-7 c = read_bytes 2 7 _ c.args.sheet.now refl (grind arith) (grind arith) refl

pub returns-in-8 : goal.returns-in-8
returns-in-8 c = read_bytes 2 8 _ c.args.sheet.now refl (grind arith) (grind arith) refl

pub returns-in-9 : goal.returns-in-9
returns-in-9 c = read_bytes 1 9 _ c.args.sheet.now refl (grind arith) (grind arith) refl

pub returns-in-1-to-9 : goal.returns-in-1-to-9
returns-in-1-to-9 c = read_short c.args.sheet.now (grind arith) (grind arith) (grind arith) (grind arith)

pub returns-in-len1-up : goal.returns-in-len1-up
returns-in-len1-up c = read_unknown c.args.sheet.now (grind arith) (grind arith)
