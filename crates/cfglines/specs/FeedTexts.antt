-- The message of a refused feed.
use Rattle.std.specs.Prelude.{ℕ, List, codes}
use Rattle.cfglines.specs.declared.newlinecache.FeedError.{FeedError}
use Rattle.cfglines.specs.declared.newlinecache.FeedError.TheVariants.{TooLong, OutOfMemory}

-- the text of an error
abbrev pub feed_error_text : FeedError → List ℕ
feed_error_text TooLong = codes "the text is too long"
feed_error_text OutOfMemory = codes "out of memory"
