-- What the lines so far keep, for the script to be sound.
use Rattle.std.specs.Prelude.{◌&&◌, Bool, true, length}
use Rattle.up_script.specs.Sound.{are_sound_objects, are_sound_lines}
use Rattle.up_script.specs.declared.reading.Section.{Section}
use Rattle.up_script.specs.declared.reading.Section.TheVariants.{Acting}

abbrev pub is_sound_section : Section → Bool
is_sound_section (Acting declared played) =
    are_sound_objects declared.objects && are_sound_lines (length declared.objects) (length declared.actors) played.lines
is_sound_section _ = true
