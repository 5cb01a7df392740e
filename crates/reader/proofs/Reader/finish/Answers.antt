-- Where a byte is left, something is left.
use Rattle.std.proofs.Common.{◌<◌, length, arith}
use Rattle.reader.specs.Unread.{unread}
use Rattle.reader.proofs.Finishing.{more_left}
use Rattle.reader.proofs.Reader.finish.Goals as goal

pub returns-else-self : goal.returns-else-self
unfolding unread
returns-else-self c =
    let h : c.args.self.at < length c.args.self.bytes.now = omega arith in
    more_left c.args.more c.args.self.bytes.now c.args.self.at h
