use Rattle.std.proofs.Common.{◌≡◌, ◌+◌, ◌-◌, ◌≤◌, ◌<◌, ◌++◌, ℕ, List, drop, length, take, arith, subst}
use Rattle.std.specs.Prelude.{slice_range}
use Rattle.std.specs.Io.KnownBytes.{Appends}
use Rattle.std.proofs.lemmas.Slice.{take-put_mid_below}
use Rattle.gft_drive.specs.Words.{HasRead}
use Rattle.gft_drive.specs.declared.Part.TheVariants.{Bytes}
use Rattle.gft_send.proofs.PieceLemmas.{piece_bytes, piece_done, piece_failed, piece_hole, piece_unread}
use Rattle.gft_send.proofs.piece.send_piece.Goals as goal

pub returns-in-Ok-eq0-clause-sends : goal.returns-in-Ok-eq0-clause-sends
returns-in-Ok-eq0-clause-sends g c =
    let left = c.args.left in
    let size : length c.read.new.buf ≡ c.min.result = omega (arith, c.read.auto.buf) in
    let wide : 0 < length c.read.new.buf = omega (arith, c.min.ensures, c.requires.some, c.requires.room) in
    let none : c.in-Ok-eq0.field-0 ≡ 0 = omega (arith, c.in-Ok-eq0.field-0-test) in
    let empty : HasRead Bytes left.start c.read.new.buf (g.D.Drive.state c.args.drive.now) 0 = subst (λ (n : ℕ). HasRead Bytes left.start c.read.new.buf (g.D.Drive.state c.args.drive.now) n) none c.in-Ok-eq0.ensures.bytes in
    piece_hole left (λ file. drop c.args.from (take 17 c.args.buf.now) ++ slice_range file left.start left.end) (g.D.Drive.state c.args.drive.now) (g.D.Drive.state c.read.new.self) (g.X.OutLane.state c.args.out.now) c.read.new.buf
    wide c.requires.some c.requires.there empty c.read.ensures.unchanged c.in-Ok-eq0.ensures.cause.kept

pub returns-in-Err-clause-sends : goal.returns-in-Err-clause-sends
returns-in-Err-clause-sends g c =
    let left = c.args.left in
    piece_unread left (λ file. drop c.args.from (take 17 c.args.buf.now) ++ slice_range file left.start left.end) (g.D.Drive.state c.args.drive.now) (g.D.Drive.state c.read.new.self) (g.X.OutLane.state c.args.out.now)
    c.read.ensures.unchanged c.in-Err.ensures.cause.later c.in-Err.ensures.cause.failed

pub returns-in-Ok-eq0-clause-header : goal.returns-in-Ok-eq0-clause-header
returns-in-Ok-eq0-clause-header g c = take-put_mid_below 17 ((17 + c.min.result) - 17) c.args.buf.now c.read.new.buf 17 (omega arith) (let room = c.requires.room in omega arith)

pub returns-in-Err-clause-header : goal.returns-in-Err-clause-header
returns-in-Err-clause-header g c = take-put_mid_below 17 ((17 + c.min.result) - 17) c.args.buf.now c.read.new.buf 17 (omega arith) (let room = c.requires.room in omega arith)

pub returns-in-Ok-put-clause-header : goal.returns-in-Ok-put-clause-header
returns-in-Ok-put-clause-header g c = take-put_mid_below 17 ((17 + c.min.result) - 17) c.args.buf.now c.read.new.buf 17 (omega arith) (let room = c.requires.room in omega arith)

pub returns-in-Err-put-clause-header : goal.returns-in-Err-put-clause-header
returns-in-Err-put-clause-header g c = take-put_mid_below 17 ((17 + c.min.result) - 17) c.args.buf.now c.read.new.buf 17 (omega arith) (let room = c.requires.room in omega arith)

pub returns-in-Ok-put-clause-sends : goal.returns-in-Ok-put-clause-sends
returns-in-Ok-put-clause-sends g c =
    let left = c.args.left in
    let part = c.read.new.buf in
    let n = c.in-Ok.count in
    let old = g.X.OutLane.state c.args.out.now in
    let new = g.X.OutLane.state c.put.new.self in
    let size : length part ≡ c.min.result = omega (arith, c.read.auto.buf) in
    let bound : n ≤ length part = c.in-Ok.ensures.bound in
    let short : n ≤ left.end - left.start = omega (arith, c.min.ensures) in
    let bytes = piece_bytes 17 ((17 + c.min.result) - 17) c.args.from n c.args.buf.now part c.requires.from (let room = c.requires.room in omega arith) bound in
    piece_done left (drop c.args.from (take 17 c.args.buf.now)) part n (g.D.Drive.state c.args.drive.now) (g.D.Drive.state c.read.new.self) old new
    c.requires.some short bound c.in-Ok.ensures.bytes c.read.ensures.unchanged c.in-Ok.ensures.cause.kept
    (subst (λ (l : List ℕ). Appends old.written new.written l) bytes c.in-Ok-put.ensures.puts.0) c.in-Ok-put.ensures.puts.1 c.in-Ok-put.ensures.cause.kept

pub returns-in-Err-put-clause-sends : goal.returns-in-Err-put-clause-sends
returns-in-Err-put-clause-sends g c =
    let left = c.args.left in
    let part = c.read.new.buf in
    let n = c.in-Ok.count in
    let old = g.X.OutLane.state c.args.out.now in
    let new = g.X.OutLane.state c.put.new.self in
    let size : length part ≡ c.min.result = omega (arith, c.read.auto.buf) in
    let bound : n ≤ length part = c.in-Ok.ensures.bound in
    let short : n ≤ left.end - left.start = omega (arith, c.min.ensures) in
    let bytes = piece_bytes 17 ((17 + c.min.result) - 17) c.args.from n c.args.buf.now part c.requires.from (let room = c.requires.room in omega arith) bound in
    let put = c.in-Err-put.ensures.puts.0 in
    piece_failed left (drop c.args.from (take 17 c.args.buf.now)) part n (g.D.Drive.state c.args.drive.now) (g.D.Drive.state c.read.new.self) old new
    c.requires.some short bound c.in-Ok.ensures.bytes c.read.ensures.unchanged c.in-Ok.ensures.cause.kept
    put.0 (subst (λ (l : List ℕ). Appends old.written new.written (take put.0 l)) bytes put.1) c.in-Err-put.ensures.cause.later c.in-Err-put.ensures.cause.failed
