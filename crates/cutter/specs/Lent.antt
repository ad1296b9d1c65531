-- What is lent of the two kinds of map.
-- Assumes nothing.
use Rattle.cutter.specs.declared.LentMaps.{LentMaps}
use Rattle.cutter.specs.Kinds.{Maps, maps}

-- what the slices hold
abbrev pub held_by : LentMaps → Maps
held_by m = maps m.pairs.now m.values.now
