-- Where a disk in memory stops.
use Rattle.std.specs.Prelude.{ℕ, zero, suc, ◌-◌, ◌==◌, Bool, true, false, if◌then◌else◌}
use Rattle.gate_log.specs.declared.arm.Arm.{Arm}
use Rattle.gate_log.specs.declared.image.Image.{Image}
use Rattle.gate_log.specs.declared.arm.Arm.TheVariants.{Never, Waiting, Reached}

-- after one more counted call
abbrev pub after_counted : Arm → Arm
after_counted Never = Never
after_counted (Waiting calls image) = if calls == 1 then Reached image else Waiting (calls - 1) image
after_counted (Reached image) = Reached image

-- the disk has stopped
abbrev pub is_reached : Arm → Bool
is_reached Never = false
is_reached (Waiting calls image) = false
is_reached (Reached image) = true

-- the disk with an arm at this counted call from here; one that has stopped stays as it is
abbrev pub armed : ℕ → Image → Arm → Arm
armed calls image Never = Waiting calls image
armed calls image (Waiting old_calls old_image) = Waiting calls image
armed calls image (Reached old_image) = Reached old_image

-- the image that a crash leaves: where the disk has stopped, the one that was armed
abbrev pub image_in_force : Arm → Image → Image
image_in_force Never image = image
image_in_force (Waiting calls old_image) image = image
image_in_force (Reached old_image) image = old_image

-- after so many more counted calls
abbrev pub after_calls : ℕ → Arm → Arm
after_calls zero arm = arm
after_calls (suc n) arm = after_calls n (after_counted arm)
