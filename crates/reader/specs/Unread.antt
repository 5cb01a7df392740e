-- What a reader has left.
use Rattle.std.specs.Prelude.{List, ℕ, drop}
use Rattle.reader.specs.declared.Reader.{Reader}

-- The bytes behind the place.
unfoldable pub unread : Reader → List ℕ
unread reader = drop reader.at reader.bytes.now
