mod CountLaws
mod PlaceLaws
mod StepLaws
