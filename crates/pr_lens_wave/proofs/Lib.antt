pub mod WaveLaws
